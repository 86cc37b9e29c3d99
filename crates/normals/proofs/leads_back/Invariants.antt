-- `normals::leads_back` meets its contract. The loops: the cells before letter y of row v are carried over (`MapTurn`).
-- Assumes nothing.
use Rattle.normals.proofs.MapTurn.{Follow, Behind}
use Rattle.normals.proofs.leads_back.Given as goal

abbrev pub invariant-loop-y : goal.invariant-loop-y
invariant-loop-y l = Follow l.t.n l.t.points l.t.cells.now l.p l.v l.y l.met l.work × Behind l.t.points l.initial.work l.work

abbrev pub invariant-loop-v : goal.invariant-loop-v
invariant-loop-v l = Follow l.t.n l.t.points l.t.cells.now l.p l.v 0 l.met l.work × Behind l.t.points l.initial.work l.work
