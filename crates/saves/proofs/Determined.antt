-- The public contracts of this crate fix their outcome.
--   save_table_determined : two outcomes of `save_table` that conform on one input are equal, answer and bytes
--   save_list_determined  : so are two of `save_list`
-- Assumes nothing.
use mathlib.Core.Path.{◌≡◌, sym, ◌∙◌}
use mathlib.Core.List.{List}
use Prim.Native.Nat.{ℕ}
use Rattle.std.specs.declared.result.Result.{Result}
use Rattle.refusals.specs.declared.Refusal.{Refusal}
use Rattle.saves.specs.Saves.{SaveTableOutcome, SaveListOutcome}

pub save_table_determined : (n N : ℕ) (t out : List ℕ) (r s : Result ℕ Refusal) (after cells : List ℕ)
    → SaveTableOutcome n N t out r after → SaveTableOutcome n N t out s cells → (r ≡ s) × (after ≡ cells)
save_table_determined n N t out r s after cells h k = (h.answer ∙ sym k.answer, h.cells ∙ sym k.cells)

pub save_list_determined : (n : ℕ) (list out : List ℕ) (r s : Result ℕ Refusal) (after cells : List ℕ)
    → SaveListOutcome n list out r after → SaveListOutcome n list out s cells → (r ≡ s) × (after ≡ cells)
save_list_determined n list out r s after cells h k = (h.answer ∙ sym k.answer, h.cells ∙ sym k.cells)
