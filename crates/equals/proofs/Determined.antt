-- The public contract of this crate fixes its outcome.
--   equal_determined : two answers of `equal` that conform on one input are equal
-- Assumes nothing.
use mathlib.Core.Path.{◌≡◌, sym, ◌∙◌}
use mathlib.Core.Bool.{Bool}
use mathlib.Core.List.{List}
use Prim.Native.Nat.{ℕ}
use Rattle.std.specs.declared.result.Result.{Result}
use Rattle.equals.specs.Equals.{EqualOutcome}
use Rattle.refusals.specs.declared.Refusal.{Refusal}

pub equal_determined : (n N : ℕ) (t : List ℕ) (m M : ℕ) (s : List ℕ) (r q : Result Bool Refusal)
    → EqualOutcome n N t m M s r → EqualOutcome n N t m M s q → r ≡ q
equal_determined n N t m M s r q h k = h ∙ sym k
