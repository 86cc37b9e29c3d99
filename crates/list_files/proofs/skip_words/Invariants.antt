-- `skip_words` meets its contract: the loop holds `Head` of SkipTurn.
-- Assumes nothing.
use Rattle.list_files.proofs.SkipTurn.{Head}
use Rattle.list_files.proofs.skip_words.Given as goal

abbrev pub invariant-loop : goal.invariant-loop
invariant-loop l = Head l.n l.file l.at l.count l.place l.bytes l.counter
