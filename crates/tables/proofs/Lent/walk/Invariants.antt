-- `tables::Lent::walk` meets its contract. The loops: no cell before letter y of row v is faulty, and `seen` is what they hold (`WalkTurn`).
-- Assumes nothing.
use Rattle.tables.proofs.WalkTurn.{Head}
use Rattle.tables.proofs.Lent.walk.Given as goal

abbrev pub invariant-loop-v : goal.invariant-loop-v
invariant-loop-v l = Head l.self.n l.self.points l.self.cells.now l.v 0 l.seen

abbrev pub invariant-loop-y : goal.invariant-loop-y
invariant-loop-y l = Head l.self.n l.self.points l.self.cells.now l.v l.y l.seen
