-- `edges::mark` meets its contract. The loop: the first j marks are left, and the tally stands at the row of mark j (`MarkLaws`).
-- Assumes nothing.
use Rattle.edges.proofs.MarkLaws.{Marking}
use Rattle.edges.proofs.mark.Given as goal

abbrev pub invariant-loop-j : goal.invariant-loop-j
invariant-loop-j l = Marking l.t.n l.t.points l.t.cells.now l.marks l.initial.work l.j l.work l.row l.tally
