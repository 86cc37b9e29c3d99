-- The numbers that stand in a file, computed (document 01, 'The saved file'; refusals 10 and 4 of a file), cited by those that read files.
--   value_of d bytes  == the value of the groups up to the first byte below 128, of at most d bytes
--   number_in bytes   == the number, at most 4,294,967,295, whose shortest form the bytes begin with
--   number_at file p  == the number that stands at byte p; behind p x == the place behind it
--   numbers_at limit file p k == k numbers from byte p on, each below the limit, and the place behind them; else the first refusal:
--                       10 where no number stands, 4 where one of the limit or more does, at its first byte
--   Whole run <-> it was read to its end; values_of, place_of == its numbers, and the place behind them
-- `proofs/Standing` joins `number_at` to theory's `NumberAt`. Assumes nothing.
use Rattle.std.specs.Prelude.{Bool, true, false, cond, ◌&&◌, List, [], ◌∷◌, ℕ, zero, suc, ◌+◌, ◌-◌, ◌*◌, eqb, ltb, leb, length, drop}
use Rattle.std.proofs.Math.Option.{Option, none, some}
use Rattle.std.specs.declared.result.Result.{Result}
use Rattle.std.specs.declared.result.Result.TheVariants.{Ok, Err}
use Rattle.theory.specs.Files.{number_limit, number_bytes}
use Rattle.theory.specs.Refusals.{Refusal as FirstCause}
use Rattle.refusals.specs.declared.Refusal.{Refusal}
use Rattle.refusals.specs.Given.{given}

-- a group, and the value of the groups behind it
abbrev pub on_groups : ℕ → Option ℕ → Option ℕ
on_groups b none = none
on_groups b (some x) = some (b + 128 * x)

unfoldable pub value_of : ℕ → List ℕ → Option ℕ
value_of zero bytes = none
value_of (suc d) [] = none
value_of (suc d) (b ∷ bs) = cond (ltb b 128) (some b) (on_groups (b - 128) (value_of d bs))

-- some bytes begin with others
unfoldable pub begins : List ℕ → List ℕ → Bool
begins [] bytes = true
begins (b ∷ bs) [] = false
begins (b ∷ bs) (a ∷ rest) = eqb a b && begins bs rest

-- x stands at the front if it is not too big and its shortest form does
unfoldable pub is_written : ℕ → List ℕ → Bool
is_written x bytes = leb x number_limit && begins (number_bytes x) bytes

abbrev pub if_written : List ℕ → Option ℕ → Option ℕ
if_written bytes none = none
if_written bytes (some x) = cond (is_written x bytes) (some x) none

unfoldable pub number_in : List ℕ → Option ℕ
number_in bytes = if_written bytes (value_of 5 bytes)

unfoldable pub number_at : List ℕ → ℕ → Option ℕ
number_at file p = number_in (drop p file)

unfoldable pub behind : ℕ → ℕ → ℕ
behind p x = p + length (number_bytes x)

-- a run of numbers: the refusal that it draws, or the numbers and the place behind them
pub data Run : Type 0 where
  broken : FirstCause → Run
  whole : List ℕ → ℕ → Run

-- 10 or 4, at byte p
abbrev pub broken_at : ℕ → ℕ → Run
broken_at k p = broken (record { number = k; place = p })

-- x in front of a run
abbrev pub on_run : ℕ → Run → Run
on_run x (broken r) = broken r
on_run x (whole xs q) = whole (x ∷ xs) q

-- the number at p, and what follows it
abbrev pub run_on : ℕ → ℕ → Option ℕ → (ℕ → Run) → Run
run_on limit p none rest = broken_at 10 p
run_on limit p (some x) rest = cond (ltb x limit) (on_run x (rest (behind p x))) (broken_at 4 p)

unfoldable pub numbers_at : ℕ → List ℕ → ℕ → ℕ → Run
numbers_at limit file p zero = whole [] p
numbers_at limit file p (suc k) = run_on limit p (number_at file p) (λ q. numbers_at limit file q k)

-- a run as `skip` answers it
abbrev pub skipped_as : Run → Result ℕ Refusal
skipped_as (broken r) = Err (given r)
skipped_as (whole xs q) = Ok q

-- a run that was read to its end, its numbers, and the place behind them
abbrev pub Whole : Run → Type 0
Whole (broken r) = ⊥
Whole (whole xs q) = Unit {0}

abbrev pub values_of : Run → List ℕ
values_of (broken r) = []
values_of (whole xs q) = xs

abbrev pub place_of : Run → ℕ
place_of (broken r) = 0
place_of (whole xs q) = q
