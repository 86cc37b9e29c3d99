-- `lists::start_size` meets its contract. The loop: the words before `at` are counted (`StartTurn`).
-- Assumes nothing.
use Prim.Native.Nat.{◌-◌}
use lib.ListN.{length}
use Rattle.lists.proofs.StartTurn.{Head}
use Rattle.lists.proofs.start_size.Given as goal

abbrev pub invariant-loop-at : goal.invariant-loop-at
invariant-loop-at l = Head l.list l.initial.work l.points l.edges l.at l.work

abbrev pub decreases-loop-at : goal.decreases-loop-at
decreases-loop-at l = length l.list - l.at
