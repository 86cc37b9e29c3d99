-- `takes::chain` meets its contract. The loop: what is left of the chain, from the tip on (`ChainTurn`).
-- Assumes nothing.
use Rattle.rooms.specs.Rooms.{Held}
use Rattle.takes.proofs.ChainTurn.{Head}
use Rattle.takes.proofs.chain.Given as goal

abbrev pub invariant-loop-i : goal.invariant-loop-i
invariant-loop-i l =
    Held l.initial.fold l.fold
    × Head l.initial.fold.room l.initial.fold.table.now l.initial.fold.work.now l.a l.b l.first l.end l.fold.room.made l.fold.pending l.at l.i
    l.fold.table.now l.fold.work.now
