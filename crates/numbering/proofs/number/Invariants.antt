-- `numbering::number` meets its contract. The loop: the rows before v are done, and those from v on lead to the end (`NumberTurn`).
-- Assumes nothing.
use Prim.Native.Nat.{◌-◌}
use Rattle.numbering.proofs.NumberTurn.{Head}
use Rattle.numbering.proofs.number.Given as goal

abbrev pub invariant-loop-v : goal.invariant-loop-v
invariant-loop-v l = Head l.n l.room l.initial.table l.v l.met l.table

abbrev pub decreases-loop-v : goal.decreases-loop-v
decreases-loop-v l = l.room - l.v
