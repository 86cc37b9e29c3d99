-- `folds::take_words` meets its contract. The loop: the words before `at` are taken in (`WordsTurn`).
-- Assumes nothing.
use Rattle.folds.proofs.WordsTurn.{Head}
use mathlib.Core.Path.{◌≡◌}
use Rattle.rooms.specs.Rooms.{Held}
use lib.ListN.{length}
use Prim.Native.Nat.{◌-◌}
use Rattle.folds.proofs.take_words.Given as goal

abbrev pub invariant-loop-at : goal.invariant-loop-at
invariant-loop-at l =
    Held l.initial.fold l.fold × (l.fold.pending ≡ 0)
    × Head l.initial.fold.room l.list l.initial.fold.table.now l.initial.fold.work.now l.fold.room.made l.points l.edges l.at
    l.fold.table.now l.fold.work.now

abbrev pub decreases-loop-at : goal.decreases-loop-at
decreases-loop-at l = length l.list - l.at
