-- `takes::read_back` meets its contract. The loop: what is still to be read from v, the letters that the iterator has (`ReadTurn`).
-- Assumes nothing.
use mathlib.Core.Path.{◌≡◌}
use Rattle.theory.specs.Tables.{cell}
use Rattle.takes.proofs.ReadTurn.{Back}
use Rattle.takes.proofs.read_back.Given as goal

abbrev pub invariant-loop-i : goal.invariant-loop-i
invariant-loop-i l =
    (l.i-iterator.iter.count ≡ 0) × Back (cell l.room.n l.room.rows l.table) l.word l.room.made l.v l.i-iterator.iter.iter.rest.now
