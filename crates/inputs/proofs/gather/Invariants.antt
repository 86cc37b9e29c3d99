-- `inputs::gather` meets its contract. The loop: the texts of the lines before `at` stand in front (`GatherTurn`).
-- Assumes nothing.
use Prim.Native.Nat.{◌-◌}
use Rattle.inputs.proofs.GatherTurn.{Gather}
use Rattle.inputs.proofs.gather.Given as goal

abbrev pub invariant-loop-at : goal.invariant-loop-at
invariant-loop-at l = Gather l.initial.input l.from l.end l.input l.list l.at

abbrev pub decreases-loop-at : goal.decreases-loop-at
decreases-loop-at l = l.end - l.at
