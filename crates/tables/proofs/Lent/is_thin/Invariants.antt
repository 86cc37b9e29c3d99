-- `tables::Lent::is_thin` meets its contract. The loop: of i cells `found` are present (`CellTurn`).
-- Assumes nothing.
use mathlib.Core.Path.{◌≡◌}
use lib.ListN.{take}
use Rattle.theory.specs.Canonical.{present}
use Rattle.tables.proofs.Lent.is_thin.Given as goal

abbrev pub invariant-loop-x : goal.invariant-loop-x
invariant-loop-x l = l.found ≡ present (take l.x-index l.row)
