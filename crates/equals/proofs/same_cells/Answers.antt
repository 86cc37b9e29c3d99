-- `equals::same_cells` meets its contract. The two parts are compared cell by cell (`CellsTurn`).
-- Assumes nothing.
use mathlib.Core.Path.{◌∙◌}
use lib.ListN.{take}
use Rattle.equals.proofs.CellsTurn.{pointwise_same}
use Rattle.equals.proofs.same_cells.Goals as goal

pub returns : goal.returns
returns c = record { same = c.eq.ensures ∙ pointwise_same (take c.args.count c.args.first.now) (take c.args.count c.args.second.now) }
