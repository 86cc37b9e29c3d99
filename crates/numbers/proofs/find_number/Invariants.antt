-- `find_number` meets its contract: the loop holds `Turn` of ReadTurn.
-- Assumes nothing.
use Rattle.numbers.proofs.ReadTurn.{Turn}
use Rattle.numbers.proofs.find_number.Given as goal

abbrev pub invariant-loop-i : goal.invariant-loop-i
invariant-loop-i l = Turn l.file l.at l.value l.scale l.i-iterator.iter.iter.rest.now l.i-iterator.iter.n l.i-iterator.count
