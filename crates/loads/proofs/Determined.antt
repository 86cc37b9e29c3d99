-- The public contract of this crate fixes its outcome.
--   load_determined : two outcomes of `load` that conform on one input are equal, answer and both buffers
-- Assumes nothing.
use mathlib.Core.Path.{◌≡◌, sym, ◌∙◌}
use mathlib.Core.List.{List}
use Prim.Native.Nat.{ℕ}
use Rattle.std.specs.declared.result.Result.{Result}
use Rattle.refusals.specs.declared.Refusal.{Refusal}
use Rattle.loads.specs.declared.Loaded.{Loaded}
use Rattle.loads.specs.Loads.{LoadOutcome}

pub load_determined : (file table text : List ℕ) (r s : Result Loaded Refusal) (cells₁ bytes₁ cells₂ bytes₂ : List ℕ)
    → LoadOutcome file table text r cells₁ bytes₁ → LoadOutcome file table text s cells₂ bytes₂ → (r ≡ s) × (cells₁ ≡ cells₂) × (bytes₁ ≡ bytes₂)
load_determined file table text r s cells₁ bytes₁ cells₂ bytes₂ h k =
    (h.answer ∙ sym k.answer, h.cells ∙ sym k.cells, h.bytes ∙ sym k.bytes)
