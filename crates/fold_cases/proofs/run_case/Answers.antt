-- `fold_cases::run_case` meets its contract. `CaseLaws` puts the parts together.
-- Assumes nothing.
use Rattle.fold_cases.proofs.CaseLaws.{table_short, work_short, ran}
use Rattle.fold_cases.proofs.run_case.Goals as goal

pub returns-then-table-count : goal.returns-then-table-count
returns-then-table-count c = record { run = table_short _ _ _ _ c.if-table-count.true }

pub returns-then-work-size : goal.returns-then-work-size
returns-then-work-size c = record { run = work_short _ _ _ _ c.if-table-count.false c.if-work-size.true }

pub returns : goal.returns
returns c = record { run = ran _ _ _ _ c.if-table-count.false c.if-work-size.false _ _ c.fill.ensures.filled c.fill-2.ensures.filled c.run_fold.ensures.run }
