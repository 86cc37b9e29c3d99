-- `expressions::count_crossings` meets its contract. The loop: i letters were read, and so many edges outside the paths crossed (`WalkTurn`).
-- Assumes nothing.
use Rattle.expressions.proofs.WalkTurn.{Walk}
use Rattle.expressions.proofs.count_crossings.Given as goal

abbrev pub invariant-loop-y : goal.invariant-loop-y
invariant-loop-y l = Walk l.t.n l.t.points l.t.cells.now l.word l.y-index l.v l.found
