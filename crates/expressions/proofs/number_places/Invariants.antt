-- `expressions::number_places` meets its contract. The loop: the first places have their numbers (`WalkTurn`).
-- Assumes nothing.
use mathlib.Core.Path.{◌≡◌}
use Rattle.expressions.specs.Places.{numbered}
use Rattle.expressions.proofs.WalkTurn.{changed}
use Rattle.expressions.proofs.number_places.Given as goal

abbrev pub invariant-loop-z : goal.invariant-loop-z
invariant-loop-z l = l.z-items ≡ changed (numbered l.t.n l.t.points l.t.cells.now) l.z-index l.fn.places
