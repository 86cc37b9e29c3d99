-- `bases::Pathed::measure` meets its contract. The loop: the first v rows are summed (`SumLaws`).
-- Assumes nothing.
use Rattle.bases.proofs.SumLaws.{Sums}
use Rattle.bases.proofs.Pathed.measure.Given as goal

abbrev pub invariant-loop-v : goal.invariant-loop-v
invariant-loop-v l = Sums l.self.table.n l.self.table.points l.self.table.cells.now l.v l.size
