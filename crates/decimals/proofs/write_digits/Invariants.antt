-- `write_digits` leaves the digits of x in the first cells and keeps the others: the loop holds `Head` of WriteTurn.
-- Assumes nothing.
use Rattle.decimals.proofs.WriteTurn.{Head}
use Rattle.decimals.proofs.write_digits.Given as goal

abbrev pub invariant-loop-i : goal.invariant-loop-i
invariant-loop-i l = Head l.x l.size l.initial.out l.out l.rest l.i
