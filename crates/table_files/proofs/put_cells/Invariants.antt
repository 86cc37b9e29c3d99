-- `put_cells` meets its contract: the loop holds `Head` of CellsTurn.
-- Assumes nothing.
use Rattle.table_files.proofs.CellsTurn.{Head}
use Rattle.table_files.proofs.put_cells.Given as goal

abbrev pub invariant-loop-cell : goal.invariant-loop-cell
invariant-loop-cell l = Head l.file l.at l.count l.p l.cell-index l.cell-items
