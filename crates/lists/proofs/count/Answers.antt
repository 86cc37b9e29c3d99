-- `lists::count` meets its contract. The words, from the letters and whether the last word is ended (`CountTurn`).
-- Assumes nothing.
use native.Mathlib.Omega.{arith}
use Rattle.theory.proofs.TextLaws.{letters_le}
use Rattle.lists.proofs.CountTurn.{count_unended, count_ended}
use Rattle.lists.proofs.count.Goals as goal

pub overflow_sub-ends : goal.overflow_sub-ends
overflow_sub-ends c = omega (arith, letters_le c.args.text.now, c.letters_in-letters.ensures.letters)

pub returns-then-unended : goal.returns-then-unended
returns-then-unended c = record { counts = count_unended _ _ _ c.letters_in-letters.ensures.letters c.unended.ensures.unended c.if-unended.true }

pub returns-else-unended : goal.returns-else-unended
returns-else-unended c = record { counts = count_ended _ _ _ c.letters_in-letters.ensures.letters c.unended.ensures.unended c.if-unended.false }
