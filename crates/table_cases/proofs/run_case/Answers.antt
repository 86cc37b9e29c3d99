-- `table_cases::run_case` meets its contract. The parts that are lent are as long as the numbers say; `CaseLaws` puts them together.
-- Assumes nothing.
use Rattle.table_cases.proofs.CaseLaws.{ran}
use Rattle.table_cases.proofs.run_case.Goals as goal

pub returns : goal.returns
returns c = record { run = ran _ _ _ _ _ c.if-first-count.false c.if-second-second_count.false c.if-work-size.false c.if-body-end.false c.cells.ensures.cells c.cells-2.ensures.cells c.fill.ensures.filled c.ask.ensures.asked }
