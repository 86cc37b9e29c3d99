-- `edges::find` meets its contract. Before the first mark there is nothing; else two cells (`MarkLaws`).
-- Assumes nothing.
use Rattle.edges.proofs.MarkLaws.{found_first, found_later}
use Rattle.edges.proofs.find.Goals as goal

pub returns-then-j-eq0 : goal.returns-then-j-eq0
returns-then-j-eq0 c = record { found = found_first c.args.work.now _ c.if-j-eq0.true }

pub returns : goal.returns
returns c = record { found = found_later c.args.work.now _ c.if-j-eq0.false }
