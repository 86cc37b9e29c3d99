-- `printer::print_words` meets its contract. The loop goes from word to word (`PrintLaws`).
-- Assumes nothing.
use Rattle.std.proofs.Common.{◌-◌, ◌≤◌, length}
use Rattle.printer.proofs.print_words.Given as goal

abbrev pub invariant-loop-at : goal.invariant-loop-at
invariant-loop-at l = l.at ≤ length l.text

abbrev pub decreases-loop-at : goal.decreases-loop-at
decreases-loop-at l = length l.text - l.at
