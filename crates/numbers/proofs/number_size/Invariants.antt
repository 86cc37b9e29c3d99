-- `number_size` answers the number of bytes of x: the loop holds `Head` of NumberLaws, and `rest` falls.
-- Assumes nothing.
use Rattle.numbers.proofs.NumberLaws.{Head}
use Rattle.numbers.proofs.number_size.Given as goal

abbrev pub invariant-loop-rest : goal.invariant-loop-rest
invariant-loop-rest l = Head l.x l.rest l.size

abbrev pub decreases-loop-rest : goal.decreases-loop-rest
decreases-loop-rest l = l.rest
