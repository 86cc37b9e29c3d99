-- `count_digits` answers the number of digits of x: the loop holds `Head` of CountTurn, and `rest` falls. Assumes nothing.
use Rattle.decimals.proofs.CountTurn.{Head}
use Rattle.decimals.proofs.count_digits.Given as goal

abbrev pub invariant-loop-rest : goal.invariant-loop-rest
invariant-loop-rest l = Head l.x l.rest l.n

abbrev pub decreases-loop-rest : goal.decreases-loop-rest
decreases-loop-rest l = l.rest
