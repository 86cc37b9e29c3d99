-- `printer::print_query` meets its contract: the cells are those that `express` leaves (`LentLaws`).
-- Assumes nothing.
use Rattle.printer.proofs.LentLaws.{query_done}
use Rattle.printer.proofs.print_query.Goals as goal

pub returns-in-Err : goal.returns-in-Err
returns-in-Err c = record { cells = query_done _ _ _ _ _ _ c.express.ensures.outcome }

pub returns-in-Ok-None : goal.returns-in-Ok-None
returns-in-Ok-None c = record { cells = query_done _ _ _ _ _ _ c.express.ensures.outcome }

pub returns-in-Ok-Some : goal.returns-in-Ok-Some
returns-in-Ok-Some c = record { cells = query_done _ _ _ _ _ _ c.express.ensures.outcome }
