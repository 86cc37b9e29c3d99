-- `drains::drain` meets its contract. The loop: some turns have been made, and those that are left drain the rest (`DrainTurn`).
-- Assumes nothing.
use Rattle.rooms.specs.Rooms.{state_in, Kept}
use Rattle.engine.specs.Stages.{weight}
use Rattle.drains.proofs.DrainTurn.{Head}
use Rattle.drains.proofs.drain.Given as goal

abbrev pub invariant-loop-fold : goal.invariant-loop-fold
invariant-loop-fold l =
    Kept l.initial.fold l.fold
    × Head l.initial.fold.room l.initial.fold.table.now l.initial.fold.work.now l.initial.fold.pending l.fold.table.now l.fold.work.now l.fold.pending

abbrev pub decreases-loop-fold : goal.decreases-loop-fold
decreases-loop-fold l = weight (state_in l.fn.fold.room l.fold.table.now l.fold.work.now l.fold.pending)
