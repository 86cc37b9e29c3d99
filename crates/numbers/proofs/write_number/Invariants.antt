-- `write_number` leaves the bytes of x from `at` on and keeps the others: the loop holds `Head` of WriteTurn, and `rest` falls.
-- Assumes nothing.
use Rattle.numbers.proofs.WriteTurn.{Head}
use Rattle.numbers.proofs.write_number.Given as goal

abbrev pub invariant-loop-rest : goal.invariant-loop-rest
invariant-loop-rest l = Head l.at l.x l.initial.out l.out l.rest l.i

abbrev pub decreases-loop-rest : goal.decreases-loop-rest
decreases-loop-rest l = l.rest
