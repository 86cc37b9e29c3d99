-- `bases::Pathed::write_words` meets its contract. The loop: the text of the first v rows is written (`SumLaws`).
-- Assumes nothing.
use Rattle.bases.proofs.SumLaws.{Rows}
use Rattle.bases.proofs.Pathed.write_words.Given as goal

abbrev pub invariant-loop-v : goal.invariant-loop-v
invariant-loop-v l = Rows l.self.table.n l.self.table.points l.self.table.cells.now l.initial.out l.v l.at l.out
