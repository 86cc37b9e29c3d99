-- `put_letters` meets its contract: the loop holds `Letters` of PutTurn.
-- Assumes nothing.
use Rattle.list_files.proofs.PutTurn.{Letters}
use Rattle.list_files.proofs.put_letters.Given as goal

abbrev pub invariant-loop-i : goal.invariant-loop-i
invariant-loop-i l = Letters l.n l.file l.at l.count l.to l.initial.text l.end l.p l.i l.text
