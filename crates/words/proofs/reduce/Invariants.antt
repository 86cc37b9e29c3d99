-- `words::reduce` meets its contract. The loop: the cells hold the reduction of the letters read so far (`ReduceTurn`).
-- Assumes nothing.
use lib.ListN.{take}
use Rattle.theory.specs.Letters.{first_word}
use Rattle.words.proofs.ReduceTurn.{Held}
use Rattle.words.proofs.reduce.Given as goal

abbrev pub invariant-loop-i : goal.invariant-loop-i
invariant-loop-i l = Held (take l.i (first_word l.part)) l.initial.work l.top l.work
