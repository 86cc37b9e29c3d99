-- The public contract of this crate fixes its outcome.
--   normal_determined : two outcomes of `normal` that conform on one input are equal, answer and cells
-- Assumes nothing.
use mathlib.Core.Path.{◌≡◌, sym, ◌∙◌}
use mathlib.Core.List.{List}
use Prim.Native.Nat.{ℕ}
use Rattle.normals.specs.Normals.{NormalOutcome}
use mathlib.Core.Bool.{Bool}
use Rattle.refusals.specs.declared.Refusal.{Refusal}
use Rattle.std.specs.declared.result.Result.{Result}

pub normal_determined : (n N : ℕ) (t work : List ℕ) (r s : Result Bool Refusal) (after cells : List ℕ)
    → NormalOutcome n N t work r after → NormalOutcome n N t work s cells → (r ≡ s) × (after ≡ cells)
normal_determined n N t work r s after cells h k = (h.answer ∙ sym k.answer, h.cells ∙ sym k.cells)
