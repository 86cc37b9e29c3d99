-- `rooms::find` meets its contract. The loop: the way is halved up to the name in hand (`FindLaws`).
-- Assumes nothing.
use Rattle.rooms.proofs.FindLaws.{Head}
use Rattle.rooms.proofs.find.Given as goal

abbrev pub invariant-loop-next : goal.invariant-loop-next
invariant-loop-next l = Head l.initial.work l.n l.v l.at l.next l.work

abbrev pub decreases-loop-next : goal.decreases-loop-next
decreases-loop-next l = l.at
