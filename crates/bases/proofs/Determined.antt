-- The public contracts of this crate fix their outcome.
--   basis_determined : two outcomes of `basis` that conform on one input are equal, answer, cells and text
--   early_determined : so are two answers of `check_early`
-- Assumes nothing.
use mathlib.Core.Path.{◌≡◌, sym, ◌∙◌}
use mathlib.Core.Option.{none}
use mathlib.Core.List.{List}
use Prim.Native.Nat.{ℕ}
use Rattle.tables.specs.declared.Table.{Table}
use Rattle.tables.specs.declared.Sound.{Sound}
use Rattle.tables.proofs.Determined.{HandsOn, handed_on_determined}
use Rattle.bases.specs.Bases.{early_refusal, BasisOutcome}
use Rattle.lists.specs.declared.TextSize.{TextSize}
use Rattle.refusals.specs.declared.Refusal.{Refusal}
use Rattle.std.specs.declared.result.Result.{Result}

pub basis_determined : (n N : ℕ) (t work out : List ℕ) (r s : Result TextSize Refusal) (work' cells out' text : List ℕ)
    → BasisOutcome n N t work out r work' out' → BasisOutcome n N t work out s cells text → (r ≡ s) × (work' ≡ cells) × (out' ≡ text)
basis_determined n N t work out r s work' cells out' text h k =
    (h.answer ∙ sym k.answer, h.cells ∙ sym k.cells, h.text ∙ sym k.text)

pub early_determined : (t : Table) (room : ℕ) (r s : Result Sound Refusal)
    → HandsOn t.n t.points t.cells (early_refusal t.n t.points t.cells.now room none) r
    → HandsOn t.n t.points t.cells (early_refusal t.n t.points t.cells.now room none) s → r ≡ s
early_determined t room = handed_on_determined t.n t.points t.cells (early_refusal t.n t.points t.cells.now room none)
