use Rattle.table_files.proofs.CellsTurn.{cell_zero, cell_some}
use Rattle.table_files.proofs.cell_of.Goals as goal

pub returns-then-x-eq0 : goal.returns-then-x-eq0
returns-then-x-eq0 c = record { cell = cell_zero _ c.if-x-eq0.true }

pub returns : goal.returns
returns c = record { cell = cell_some _ c.if-x-eq0.false }
