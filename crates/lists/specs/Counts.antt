-- The counts of a list text and the walk through it, cited by this crate's contracts.
--   CountsOf text r   <-> r has the letters as written and the number of words
--   next_start text at == where the word after the one that starts at `at` starts; the text's length after the last
--   StartSizeOf        <-> the figures are those of the list's start graph, and a work cell for each letter is 0
-- Assumes nothing.
use Rattle.std.specs.Prelude.{◌≡◌, List, ℕ, suc, ◌+◌, min, length, drop}
use Rattle.theory.specs.Letters.{letters_in, word_length, words_of}
use Rattle.theory.specs.Graphs.{start_graph}
use Rattle.cells.specs.Filled.{filled}
use Rattle.lists.specs.declared.Counts.{Counts}
use Rattle.lists.specs.declared.StartSize.{StartSize}

pub record CountsOf (text : List ℕ) (r : Counts) : Type 0 where
  pub letters : r.letters ≡ letters_in text
  pub words : r.words ≡ length (words_of text)

unfoldable pub next_start : List ℕ → ℕ → ℕ
next_start text at = min (length text) (at + suc (word_length (drop at text)))

pub record StartSizeOf (list work : List ℕ) (r : StartSize) (after : List ℕ) : Type 0 where
  pub points : r.points ≡ length (start_graph (words_of list)).points
  pub edges : r.edges ≡ length (start_graph (words_of list)).edges
  pub cells : after ≡ filled (letters_in list) 0 work
