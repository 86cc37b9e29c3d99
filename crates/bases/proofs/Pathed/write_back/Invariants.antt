-- `bases::Pathed::write_back` meets its contract. The loop: the first letters are written (`ChainLaws`).
-- Assumes nothing.
use Rattle.bases.specs.Chains.{depth_of}
use Rattle.bases.proofs.ChainLaws.{Back}
use Rattle.bases.proofs.Pathed.write_back.Given as goal

abbrev pub invariant-loop-cell : goal.invariant-loop-cell
invariant-loop-cell l = Back l.self.table.points l.self.notes.now (depth_of l.self.table.points l.self.notes.now l.x) l.x l.cell-index l.p l.cell-items
