-- The public contracts of this crate fix their outcome.
--   exchange_determined, number_determined : two outcomes that conform on one input are equal, answer and cells
-- Cells held and what stands behind them are the whole table (engine, `HoldLaws`). Assumes nothing.
use mathlib.Core.Path.{◌≡◌, sym, ◌∙◌}
use mathlib.Core.List.{List}
use Prim.Native.Nat.{ℕ}
use Rattle.theory.specs.Tables.{cell}
use Rattle.engine.specs.Cells.{exchanged}
use Rattle.engine.specs.Work.{Holds}
use Rattle.engine.proofs.HoldLaws.{holds_determined}
use Rattle.numbering.specs.Numbered.{Roomed, NumberedIn}

module _ {n R : ℕ} {old : List ℕ} (room : Roomed n R old) where
  pub exchange_determined : (k p : ℕ) (a b : List ℕ) → Holds n R old (exchanged (cell n R old) k p) a
      → Holds n R old (exchanged (cell n R old) k p) b → a ≡ b
  exchange_determined k p a b = holds_determined room.some room.lent

  pub number_determined : (r s : ℕ) (a b : List ℕ) → NumberedIn n R old r a → NumberedIn n R old s b → (r ≡ s) × (a ≡ b)
  number_determined r s a b h k = (h.points ∙ sym k.points, holds_determined room.some room.lent h.table k.table)
