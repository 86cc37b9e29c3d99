-- Files read back, by computation (document 01, 'The saved file').
--   table_here_lem : the file of abA with n = 2 is its table, of 2 points
--   list_here  : a file of kind 2 with the words abA and the empty one is that list; text_here is its text
-- Assumes nothing.
use mathlib.Core.Path.{◌≡◌, refl}
use mathlib.Core.List.{List, [], ◌∷◌}
use Prim.Native.Nat.{ℕ}
use Rattle.theory.specs.Words.{inv}
use Rattle.theory.specs.Letters.{letter_bytes, byte_of, up_to, usual}
use Rattle.theory.specs.Files.{groups, number_bytes}
use Rattle.theory.specs.Refusals.{is_alphabet}
use Rattle.theory.specs.TableRefusals.{is_lent, cell_refusal}
use Rattle.theory.specs.Tables.{absent, cell}
use Rattle.theory.specs.Canonical.{
  row_of,
  rows_before,
  earlier,
  greatest_met,
  present,
  is_in,
  breaks_cell,
  breaks_row,
  is_faulty,
  least,
  first_place,
  faulty_cell,
}
use Rattle.theory.specs.Texts.{bytes_from, bytes, list_text}
use Rattle.runs.specs.Runs.{value_of, begins, is_written, number_in, number_at, behind, numbers_at}
use Rattle.table_files.specs.TableFiles.{number_cell, sound, table_in}
use Rattle.list_files.specs.ListFiles.{listed, words_at, list_in}
use Rattle.loads.specs.Loads.{table_met, list_met, file_in}

-- the file of abA
abbrev pub table_file_here : List ℕ
table_file_here = 1 ∷ 2 ∷ 2 ∷ 2 ∷ 0 ∷ 0 ∷ 0 ∷ 0 ∷ 1 ∷ 2 ∷ 2 ∷ []

abbrev pub table_here : List ℕ
table_here = 1 ∷ absent ∷ absent ∷ absent ∷ absent ∷ 0 ∷ 1 ∷ 1 ∷ []

pub table_here_lem : file_in 8 0 table_file_here ≡ table_met 2 (sound 2 table_here)
unfolding file_in table_in number_at number_in is_written begins value_of behind number_bytes groups numbers_at number_cell is_alphabet is_lent cell_refusal faulty_cell first_place least is_faulty breaks_row breaks_cell is_in present greatest_met earlier rows_before row_of usual up_to cell inv
table_here_lem = refl

-- a file of kind 2: abA, and the empty word
abbrev pub list_file_here : List ℕ
list_file_here = 2 ∷ 2 ∷ 2 ∷ 3 ∷ 0 ∷ 2 ∷ 1 ∷ 0 ∷ []

abbrev pub words_here : List (List ℕ)
words_here = (0 ∷ 2 ∷ 1 ∷ []) ∷ [] ∷ []

pub list_here : file_in 0 5 list_file_here ≡ list_met 2 (listed words_here)
unfolding file_in list_in words_at number_at number_in is_written begins value_of behind number_bytes groups numbers_at is_alphabet list_text byte_of letter_bytes
list_here = refl

pub text_here : list_text words_here ≡ bytes "abA\n\n"
unfolding list_text byte_of letter_bytes bytes_from
text_here = refl
