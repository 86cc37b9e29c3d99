-- `expressions::write_places` meets its contract. The loop: i letters were read, and the places of their edges stand in front (`WalkTurn`).
-- Assumes nothing.
use Rattle.expressions.proofs.WalkTurn.{Writing}
use Rattle.expressions.proofs.write_places.Given as goal

abbrev pub invariant-loop-y : goal.invariant-loop-y
invariant-loop-y l = Writing l.t.n l.t.points l.t.cells.now l.word l.initial.out l.y-index l.v l.at l.out
