-- `write_letters` meets its contract: the loop holds `Run` of the letters from b on (`WordLaws`).
-- Assumes nothing.
use lib.ListN.{drop}
use Rattle.theory.specs.Letters.{first_word}
use Rattle.saves.proofs.RunLaws.{Run}
use Rattle.saves.proofs.write_letters.Given as goal

abbrev pub invariant-loop-b : goal.invariant-loop-b
invariant-loop-b l = Run (first_word l.part) (drop l.b-index (first_word l.part)) l.at l.initial.out l.out l.p
