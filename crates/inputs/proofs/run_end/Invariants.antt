-- `inputs::run_end` meets its contract. The loop: the lines before `at` have the mark (`RunTurn`).
-- Assumes nothing.
use Prim.Native.Nat.{◌-◌}
use lib.ListN.{length}
use Rattle.inputs.proofs.RunTurn.{Head}
use Rattle.inputs.proofs.run_end.Given as goal

abbrev pub invariant-loop-at : goal.invariant-loop-at
invariant-loop-at l = Head l.input l.from l.mark l.at

abbrev pub decreases-loop-at : goal.decreases-loop-at
decreases-loop-at l = length l.input - l.at
