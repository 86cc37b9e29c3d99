-- `put_words` meets its contract: the loop holds `Head` of PutTurn.
-- Assumes nothing.
use Rattle.list_files.proofs.PutTurn.{Head}
use Rattle.list_files.proofs.put_words.Given as goal

abbrev pub invariant-loop : goal.invariant-loop
invariant-loop l = Head l.n l.file l.at l.count l.initial.text l.places.from l.places.to l.counter l.text
