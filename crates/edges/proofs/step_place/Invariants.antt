-- `edges::step_place` meets its contract. The loop: the least place back by the letters passed (`StepLaws`).
-- Assumes nothing.
use Rattle.theory.specs.Tables.{cell}
use Rattle.edges.proofs.StepLaws.{Least}
use Prim.Native.Nat.{◌*◌}
use Rattle.edges.proofs.step_place.Given as goal

abbrev pub invariant-loop-z : goal.invariant-loop-z
invariant-loop-z l = Least (cell l.t.n l.t.points l.t.cells.now) l.t.points (2 * l.t.n) l.x l.z l.least
