-- `members::read` meets its contract. The loop: i letters lead from the base to v (`ReadTurn`).
-- Assumes nothing.
use Rattle.members.proofs.ReadTurn.{Head}
use Rattle.members.proofs.read.Given as goal

abbrev pub invariant-loop-i : goal.invariant-loop-i
invariant-loop-i l = Head l.t.n l.t.points l.t.cells.now l.word l.i l.v
