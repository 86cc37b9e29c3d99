-- `bases::Pathed::add_row` meets its contract. The loop: the first y spots of row v are added (`SumLaws`).
-- Assumes nothing.
use Rattle.bases.proofs.SumLaws.{Sum}
use Rattle.bases.proofs.Pathed.add_row.Given as goal

abbrev pub invariant-loop-y : goal.invariant-loop-y
invariant-loop-y l = Sum l.self.table.n l.self.table.points l.self.table.cells.now l.v l.initial.sum l.y l.sum
