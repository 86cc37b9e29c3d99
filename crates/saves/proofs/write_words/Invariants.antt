-- `write_words` meets its contract: the loop holds `Run` of the words from i on (`WordLaws`).
-- Assumes nothing.
use Prim.Native.Nat.{◌-◌}
use lib.ListN.{length, drop}
use Rattle.theory.specs.Files.{word_numbers}
use Rattle.theory.specs.Letters.{words_of}
use Rattle.saves.proofs.RunLaws.{Run}
use Rattle.saves.proofs.write_words.Given as goal

abbrev pub invariant-loop-i : goal.invariant-loop-i
invariant-loop-i l = Run (word_numbers (words_of l.list)) (word_numbers (words_of (drop l.i l.list))) l.at l.initial.out l.out l.p

abbrev pub decreases-loop-i : goal.decreases-loop-i
decreases-loop-i l = length l.list - l.i
