-- `bases::Pathed::write_row` meets its contract. The loop: the text of the first y spots of row v is written (`SumLaws`).
-- Assumes nothing.
use Rattle.bases.proofs.SumLaws.{Lines}
use Rattle.bases.proofs.Pathed.write_row.Given as goal

abbrev pub invariant-loop-y : goal.invariant-loop-y
invariant-loop-y l = Lines l.self.table.n l.self.table.points l.self.table.cells.now l.v l.at l.initial.out l.y l.to l.out
