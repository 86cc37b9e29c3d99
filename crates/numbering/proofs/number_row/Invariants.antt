-- `numbering::number_row` meets its contract. The loop: a turn for each of the first i letters is done (`NumberTurn`).
-- Assumes nothing.
use Rattle.numbering.proofs.NumberTurn.{Row}
use Rattle.numbering.proofs.number_row.Given as goal

abbrev pub invariant-loop-i : goal.invariant-loop-i
invariant-loop-i l = Row l.n l.room l.initial.table l.v l.met l.i l.found l.table
