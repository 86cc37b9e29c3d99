-- `paths::note_paths` meets its contract. The loops: the cells before letter y of row v are passed (`PathTurn`).
-- Assumes nothing.
use Rattle.paths.proofs.PathTurn.{Kept, Head}
use Rattle.paths.proofs.note_paths.Given as goal

abbrev pub invariant-loop-y : goal.invariant-loop-y
invariant-loop-y l = Head l.t.n l.t.points l.t.cells.now l.v l.y l.met l.work × Kept l.t.points l.initial.work l.work

abbrev pub invariant-loop-v : goal.invariant-loop-v
invariant-loop-v l = Head l.t.n l.t.points l.t.cells.now l.v 0 l.met l.work × Kept l.t.points l.initial.work l.work
