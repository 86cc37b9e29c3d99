-- The public contract of this crate fixes its outcome.
--   read_list_determined : two outcomes of `read_list` that conform on one input are equal, answer and bytes
-- Assumes nothing.
use mathlib.Core.Path.{◌≡◌, sym, ◌∙◌}
use mathlib.Core.List.{List}
use Prim.Native.Nat.{ℕ}
use Rattle.std.specs.declared.result.Result.{Result}
use Rattle.refusals.specs.declared.Refusal.{Refusal}
use Rattle.lists.specs.declared.TextSize.{TextSize}
use Rattle.list_files.specs.ListFiles.{ListOutcome}

pub read_list_determined : (n : ℕ) (file : List ℕ) (p : ℕ) (text : List ℕ) (r s : Result TextSize Refusal) (after cells : List ℕ)
    → ListOutcome n file p text r after → ListOutcome n file p text s cells → (r ≡ s) × (after ≡ cells)
read_list_determined n file p text r s after cells h k = (h.answer ∙ sym k.answer, h.cells ∙ sym k.cells)
