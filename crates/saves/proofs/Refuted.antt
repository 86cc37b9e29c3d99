-- Wrong programs that have no place in the code: for each an outcome that does not conform. The list is a, n = 1; the table has one point
-- and no cell.
--   refuse_all_lists, refuse_all_tables : not everything is refused
--   lists_untouched, tables_untouched   : nor is the output left as it was
-- Assumes nothing.
use mathlib.Core.Path.{◌≡◌, refl, ◌∙◌, ap}
use mathlib.Core.Option.{none}
use mathlib.Core.List.{List, [], ◌∷◌}
use Prim.Native.Nat.{ℕ}
use native.Mathlib.Omega.{arith}
use lib.ListN.{length, get_or, replicate}
use Rattle.theory.specs.Words.{inv}
use Rattle.theory.specs.Files.{groups, number_bytes, numbers_bytes, cell_number, table_file, word_numbers, list_file}
use Rattle.theory.specs.Letters.{letter_bytes, place_in, letter_of, is_letter, up_to, usual, on_first, words_of}
use Rattle.theory.specs.Refusals.{is_alphabet, byte_refusal, bytes_refusal, is_unended, text_refusal}
use Rattle.theory.specs.Tables.{absent, cell}
use Rattle.theory.specs.TableRefusals.{is_lent, cell_refusal, check_refusal}
use Rattle.theory.specs.Canonical.{
  row_of,
  rows_before,
  earlier,
  greatest_met,
  present,
  is_in,
  breaks_cell,
  breaks_row,
  is_faulty,
  least,
  first_place,
  faulty_cell,
}
use Rattle.std.specs.declared.result.Result.{Result}
use Rattle.std.specs.declared.result.Result.TheVariants.{Err}
use Rattle.refusals.specs.declared.Refusal.{Refusal}
use Rattle.refusals.specs.Given.{unless}
use Rattle.saves.specs.Saves.{
  short_refusal,
  out_for,
  save_table_refusal,
  SaveTableOutcome,
  save_list_refusal,
  SaveListOutcome,
}

abbrev room : List ℕ
room = replicate 6 9

-- ── Lists ──

-- the list of the word a
abbrev a1 : List ℕ
a1 = 97 ∷ 10 ∷ []

list_is : list_file 1 (words_of a1) ≡ 2 ∷ 1 ∷ 1 ∷ 1 ∷ 0 ∷ []
unfolding list_file word_numbers numbers_bytes number_bytes groups words_of on_first letter_of place_in letter_bytes
list_is = refl

list_fine : save_list_refusal 1 a1 6 ≡ none
unfolding save_list_refusal text_refusal is_alphabet bytes_refusal byte_refusal is_unended is_letter letter_of place_in letter_bytes short_refusal list_file word_numbers numbers_bytes number_bytes groups words_of on_first
list_fine = refl

pub refuse_all_lists : (r : Refusal) (after : List ℕ) → SaveListOutcome 1 a1 room (Err r) after → ⊥
refuse_all_lists r after h =
    let e = h.answer ∙ ap (λ o. unless o (length (list_file 1 (words_of a1)))) list_fine in let z : ◌≡◌ {A = ℕ} 0 1 = cc in omega arith

pub lists_untouched : (r : Result ℕ Refusal) → SaveListOutcome 1 a1 room r room → ⊥
lists_untouched r h =
    let e = h.cells ∙ ap (out_for (list_file 1 (words_of a1)) room) list_fine ∙ ap (λ f. out_for f room none) list_is in
    let z : ◌≡◌ {A = ℕ} 9 2 = ap (λ l. get_or l 0 0) e in omega arith

-- ── Tables ──

-- one point and no cell, n = 1
abbrev bare : List ℕ
bare = absent ∷ absent ∷ []

table_is : table_file 1 1 bare ≡ 1 ∷ 1 ∷ 1 ∷ 0 ∷ 0 ∷ []
unfolding table_file cell_number numbers_bytes number_bytes groups
table_is = refl

table_fine : save_table_refusal 1 1 bare 6 ≡ none
unfolding save_table_refusal check_refusal is_alphabet is_lent cell_refusal faulty_cell first_place least is_faulty breaks_row breaks_cell is_in present greatest_met earlier rows_before row_of usual up_to cell inv short_refusal table_file cell_number numbers_bytes number_bytes groups
table_fine = refl

pub refuse_all_tables : (r : Refusal) (after : List ℕ) → SaveTableOutcome 1 1 bare room (Err r) after → ⊥
refuse_all_tables r after h =
    let e = h.answer ∙ ap (λ o. unless o (length (table_file 1 1 bare))) table_fine in let z : ◌≡◌ {A = ℕ} 0 1 = cc in omega arith

pub tables_untouched : (r : Result ℕ Refusal) → SaveTableOutcome 1 1 bare room r room → ⊥
tables_untouched r h =
    let e = h.cells ∙ ap (out_for (table_file 1 1 bare) room) table_fine ∙ ap (λ f. out_for f room none) table_is in
    let z : ◌≡◌ {A = ℕ} 9 1 = ap (λ l. get_or l 0 0) e in omega arith
