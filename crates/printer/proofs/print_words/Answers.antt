-- A word starts behind the one before it, inside the text (`PrintLaws`).
-- Assumes nothing.
use Rattle.std.proofs.Common.{arith}
use Rattle.printer.proofs.PrintLaws.{word_inside}
use Rattle.printer.proofs.print_words.Goals as goal

pub slice_bounds-print_word-count : goal.slice_bounds-print_word-count
slice_bounds-print_word-count c = omega (arith, (word_inside c.args.text.now c.loop-at.at c.loop-at-test.true c.next_start-next.ensures.next).0)

pub slice_bounds-print_word-start : goal.slice_bounds-print_word-start
slice_bounds-print_word-start c = omega (arith, (word_inside c.args.text.now c.loop-at.at c.loop-at-test.true c.next_start-next.ensures.next).0)

pub slice_bounds-print_word-end : goal.slice_bounds-print_word-end
slice_bounds-print_word-end c = omega (arith, (word_inside c.args.text.now c.loop-at.at c.loop-at-test.true c.next_start-next.ensures.next).1)

pub loop-at-smaller : goal.loop-at-smaller
loop-at-smaller c = (word_inside c.args.text.now c.loop-at.at c.loop-at-test.true c.next_start-next.ensures.next).2
