-- A number stands where one is to come (CellsTurn): the run was read through.
-- Assumes nothing.
use mathlib.Core.Path.{ap}
use mathlib.Core.List.{◌++◌}
use native.Mathlib.Omega.{arith}
use lib.ListN.{drop}
use Rattle.table_files.proofs.CellsTurn.{head_some, head_turn, head_done}
use Rattle.table_files.proofs.put_cells.Goals as goal

pub returns-in_default : goal.returns-in_default
returns-in_default c = absurd (head_some c.loop-cell.invariant (omega arith) c.in_default.ensures.number.1)

pub loop-cell-preserved : goal.loop-cell-preserved
loop-cell-preserved c =
    head_turn c.loop-cell.invariant (omega arith) c.in-Ok.number _ c.in-Ok.ensures.number c.cell_of.ensures.cell

pub returns : goal.returns
returns c =
    record { cells = ap (λ l. l ++ drop c.args.count c.args.table.now) (head_done c.loop-cell.invariant (omega arith)) }
