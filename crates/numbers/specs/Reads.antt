-- What is read at a place of a file, cited by `read_number`.
--   FoundAt file p o <-> o is the number that is written from p on and the place behind it, or none where none is
--   ReadAt file p r  <-> r is that number, or refusal 10 at p where none is
--   last_read        == the number whose last group is b, or none: b is 0 behind other groups, or the number is too big
-- Assumes nothing.
use Rattle.std.specs.Prelude.{◌≡◌, Bool, cond, ◌&&◌, List, ℕ, ◌+◌, ◌*◌, eqb, ltb, length}
use Rattle.std.specs.declared.option.Option.{Option}
use Rattle.std.specs.declared.option.Option.TheVariants.{None, Some}
use Rattle.std.specs.declared.result.Result.{Result}
use Rattle.std.specs.declared.result.Result.TheVariants.{Ok, Err}
use Rattle.theory.specs.Files.{number_bytes, number_limit, NumberAt}
use Rattle.refusals.specs.declared.Cause.TheVariants.{NoNumber}
use Rattle.refusals.specs.declared.Refusal.{Refusal}
use Rattle.refusals.specs.Given.{refusal_at}
use Rattle.numbers.specs.declared.Number.{Number}

-- a number is written from p on, and ends before the next place
abbrev pub Stands : List ℕ → ℕ → Number → Type 0
Stands file p number = NumberAt file p number.value × (number.next ≡ p + length (number_bytes number.value))

abbrev pub FoundAt : List ℕ → ℕ → Option Number → Type 0
FoundAt file p (Some number) = Stands file p number
FoundAt file p None = (x : ℕ) → NumberAt file p x → ⊥

abbrev pub ReadAt : List ℕ → ℕ → Result Number Refusal → Type 0
ReadAt file p (Ok number) = Stands file p number
ReadAt file p (Err r) = (r ≡ refusal_at NoNumber p) × ((x : ℕ) → NumberAt file p x → ⊥)

-- a last group 0 behind other groups
unfoldable pub is_needless : ℕ → ℕ → Bool
is_needless b scale = eqb b 0 && ltb 1 scale

unfoldable pub last_read : ℕ → ℕ → ℕ → ℕ → Option Number
last_read value scale b next =
    cond (is_needless b scale) None (cond (ltb number_limit (value + scale * b)) None (Some (record { value = value + scale * b; next = next })))
