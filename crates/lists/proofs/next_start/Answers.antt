-- `lists::next_start` meets its contract. The word does not pass the end of the text (`CountTurn`).
-- Assumes nothing.
use native.Mathlib.Omega.{arith}
use Rattle.lists.proofs.CountTurn.{next_fits, next_inside, next_last}
use Rattle.lists.proofs.next_start.Goals as goal

pub overflow_add-end : goal.overflow_add-end
overflow_add-end c = omega (arith, next_fits c.args.text.now c.args.at c.word_length.result c.requires c.word_length.ensures.length)

pub returns-then-end-text : goal.returns-then-end-text
returns-then-end-text c = record { next = next_inside _ _ _ c.word_length.ensures.length c.if-end-text.true }

pub returns-else-end-text : goal.returns-else-end-text
returns-else-end-text c = record { next = next_last _ _ _ c.word_length.ensures.length c.if-end-text.false }
