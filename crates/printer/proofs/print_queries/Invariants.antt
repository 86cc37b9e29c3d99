-- `printer::print_queries` meets its contract. The loop goes from query to query (`inputs`: `Queries`); what is still to come leaves what all leave (`LentLaws`).
-- Assumes nothing.
use Rattle.std.proofs.Common.{◌-◌, length}
use Rattle.printer.specs.LentCells.{lent}
use Rattle.printer.proofs.LentLaws.{Queried}
use Rattle.printer.proofs.print_queries.Given as goal

abbrev pub invariant-loop-query : goal.invariant-loop-query
invariant-loop-query l = Queried l.t.n l.t.points l.t.cells.now l.input l.from (lent l.initial.work l.initial.expression) (lent l.work l.expression) l.at

abbrev pub decreases-loop-query : goal.decreases-loop-query
decreases-loop-query l = length l.input - l.at
