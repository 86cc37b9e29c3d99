-- `skip` meets its contract: the loop holds `Head` of SkipTurn.
-- Assumes nothing.
use Rattle.runs.proofs.SkipTurn.{Head}
use Rattle.runs.proofs.skip.Given as goal

abbrev pub invariant-loop : goal.invariant-loop
invariant-loop l = Head l.file l.at l.count l.limit l.p l.counter
