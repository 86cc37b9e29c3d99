-- `drains::clear_row` meets its contract. The loop: the edges of the letters below y have moved (`ClearTurn`).
-- Assumes nothing.
use Rattle.rooms.specs.Rooms.{Kept}
use Rattle.drains.proofs.ClearTurn.{Head}
use Rattle.drains.proofs.clear_row.Given as goal

abbrev pub invariant-loop-y : goal.invariant-loop-y
invariant-loop-y l =
    Kept l.initial.fold l.fold
    × Head l.initial.fold.room l.initial.fold.table.now l.initial.fold.work.now l.initial.fold.pending l.v l.u l.y
    l.fold.table.now l.fold.work.now l.fold.pending
