-- `lists::letters_in` meets its contract. The loop: of i bytes `found` are letters (`CountTurn`).
-- Assumes nothing.
use Rattle.lists.proofs.CountTurn.{Head}
use Rattle.lists.proofs.letters_in.Given as goal

abbrev pub invariant-loop-b : goal.invariant-loop-b
invariant-loop-b l = Head l.text l.found l.b-index
