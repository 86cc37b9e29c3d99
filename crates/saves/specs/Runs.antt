-- What the parts of saving take and write, cited by their contracts.
--   word_run w           == the numbers of a word in a file of kind 2: its length, then its letters
--   SavableList n bytes <-> the sizes of a list that is not refused
-- Assumes nothing.
use Rattle.std.specs.Prelude.{List, ◌∷◌, ℕ, ◌≤◌, length}
use Rattle.theory.specs.Refusals.{text_limit}

unfoldable pub word_run : List ℕ → List ℕ
word_run w = length w ∷ w

abbrev pub SavableList : ℕ → ℕ → Type 0
SavableList n bytes = (n ≤ 26) × (bytes ≤ text_limit)
