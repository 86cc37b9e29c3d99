-- The public contract of this crate fixes its outcome.
--   express_determined : two outcomes of `express` that conform on one input are equal, answer and both buffers
-- Assumes nothing.
use mathlib.Core.Path.{◌≡◌, sym, ◌∙◌}
use mathlib.Core.List.{List}
use Prim.Native.Nat.{ℕ}
use lib.IntN.{ℤ}
use Rattle.std.specs.declared.option.Option.{Option}
use Rattle.std.specs.declared.result.Result.{Result}
use Rattle.refusals.specs.declared.Refusal.{Refusal}
use Rattle.expressions.specs.Expressions.{ExpressOutcome}

pub express_determined : (n N : ℕ) (t query work : List ℕ) (out : List ℤ) (r s : Result (Option ℕ) Refusal) (work₁ work₂ : List ℕ) (out₁ out₂ : List ℤ)
    → ExpressOutcome n N t query work out r work₁ out₁ → ExpressOutcome n N t query work out s work₂ out₂ → (r ≡ s) × (work₁ ≡ work₂) × (out₁ ≡ out₂)
express_determined n N t query work out r s work₁ work₂ out₁ out₂ h k =
    (h.answer ∙ sym k.answer, h.cells ∙ sym k.cells, h.numbers ∙ sym k.numbers)
