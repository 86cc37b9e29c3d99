-- `words_size` meets its contract: the loop holds `Sizing` of the words from `at` on (`WordLaws`).
-- Assumes nothing.
use Prim.Native.Nat.{◌-◌}
use lib.ListN.{length, drop}
use Rattle.theory.specs.Files.{word_numbers}
use Rattle.theory.specs.Letters.{words_of}
use Rattle.saves.proofs.RunLaws.{Sizing}
use Rattle.saves.proofs.words_size.Given as goal

abbrev pub invariant-loop-at : goal.invariant-loop-at
invariant-loop-at l = Sizing (word_numbers (words_of l.list)) (word_numbers (words_of (drop l.at l.list))) l.size

abbrev pub decreases-loop-at : goal.decreases-loop-at
decreases-loop-at l = length l.list - l.at
