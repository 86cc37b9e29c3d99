-- `table_size` meets its contract: the head and the cells (`CellLaws`).
-- Assumes nothing.
use native.Mathlib.Omega.{arith}
use lib.ListN.{take}
use lib.Seq.{length-take-le}
use Rattle.saves.proofs.CellLaws.{table_sized, size_few, head_few}
use Rattle.saves.proofs.table_size.Goals as goal

pub overflow_add-result : goal.overflow_add-result
overflow_add-result c = record { fits = omega (arith, c.head_size-head.ensures.size, head_few 1 c.args.t.now.n c.args.t.now.points, c.cells_size.ensures.size, size_few (take c.cell_count.result c.args.t.now.cells.now), length-take-le c.cell_count.result c.args.t.now.cells.now (omega (arith, c.cell_count.ensures.count, c.args.t.now.lent.cells)), c.cell_count.ensures.most) }

pub returns : goal.returns
returns c = record { size = table_sized _ _ _ _ _ _ c.cell_count.ensures.count c.head_size-head.ensures.size c.cells_size.ensures.size }
