-- `bases::Pathed::write_path` meets its contract. The loop: the letters from byte i on are written (`ChainLaws`).
-- Assumes nothing.
use Rattle.bases.specs.Chains.{depth_of}
use Rattle.bases.proofs.ChainLaws.{Up}
use Rattle.bases.proofs.Pathed.write_path.Given as goal

abbrev pub invariant-loop-i : goal.invariant-loop-i
invariant-loop-i l = Up l.self.table.points l.self.notes.now (depth_of l.self.table.points l.self.notes.now l.v) l.v l.at l.initial.out l.i l.p l.out
