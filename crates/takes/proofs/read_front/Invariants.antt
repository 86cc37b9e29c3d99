-- `takes::read_front` meets its contract. The loop: what is still to be read from v (`ReadTurn`).
-- Assumes nothing.
use Rattle.theory.specs.Tables.{cell}
use Rattle.takes.proofs.ReadTurn.{Front}
use Rattle.takes.proofs.read_front.Given as goal

abbrev pub invariant-loop-i : goal.invariant-loop-i
invariant-loop-i l = Front (cell l.room.n l.room.rows l.table) l.word l.room.made l.v l.i
