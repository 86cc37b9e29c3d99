-- Wrong programs that have no place in the code: for each an outcome that does not conform. The table is that of the list bb, bbb: one point,
-- and the letter b leads from it to itself.
--   list_repeated   : the basis is not the given list
--   refuse_all      : nor is every table refused
--   work_left       : nor are the work cells left as they were
-- Assumes nothing.
use mathlib.Core.Path.{◌≡◌, refl, ◌∙◌, ap}
use mathlib.Core.Option.{none}
use mathlib.Core.List.{List, [], ◌∷◌}
use Prim.Native.Nat.{ℕ}
use native.Mathlib.Omega.{arith}
use lib.ListN.{get_or, replicate}
use Rattle.theory.specs.Words.{inv, put, reduced_by, inverse_by}
use Rattle.theory.specs.Letters.{letter_bytes, byte_of, up_to, usual}
use Rattle.theory.specs.Refusals.{is_alphabet}
use Rattle.theory.specs.TableRefusals.{is_lent, cell_refusal}
use Rattle.theory.specs.Tables.{absent, cell}
use Rattle.theory.specs.Canonical.{
  row_of,
  rows_before,
  earlier,
  greatest_met,
  present,
  is_in,
  breaks_cell,
  breaks_row,
  is_faulty,
  least,
  first_place,
  faulty_cell,
}
use Rattle.theory.specs.Basis.{
  spots_of,
  scan,
  first_met,
  path_from,
  path_of,
  is_path_step,
  is_path_edge,
  those,
  edges_of,
  outside_edges,
  basis_word,
  basis_of,
}
use Rattle.theory.specs.Texts.{bytes_from, bytes, list_text}
use Rattle.cells.specs.Filled.{filled}
use Rattle.refusals.specs.declared.Refusal.{Refusal}
use Rattle.bases.specs.Bases.{basis_text, early_refusal, basis_refusal, basis_size, work_for, out_for, BasisOutcome}
use Rattle.std.specs.declared.result.Result.{Result}
use Rattle.std.specs.declared.result.Result.TheVariants.{Err}
use Rattle.lists.specs.declared.TextSize.{TextSize}
use Rattle.refusals.specs.Given.{unless}

-- the table of bb and bbb
abbrev two_three : List ℕ
two_three = absent ∷ absent ∷ 0 ∷ 0 ∷ []

text_is : basis_text 2 1 two_three ≡ bytes "b\n"
unfolding basis_text list_text basis_of basis_word outside_edges edges_of those is_path_edge is_path_step path_of path_from first_met scan spots_of first_place least cell usual up_to byte_of letter_bytes reduced_by put inverse_by inv bytes_from
text_is = refl

fine : basis_refusal 2 1 two_three 4 7 ≡ none
unfolding basis_refusal early_refusal is_alphabet is_lent cell_refusal faulty_cell first_place least is_faulty breaks_row breaks_cell is_in present greatest_met earlier rows_before row_of usual up_to cell inv basis_text list_text basis_of basis_word outside_edges edges_of those is_path_edge is_path_step path_of path_from first_met scan spots_of byte_of letter_bytes reduced_by put inverse_by
fine = refl

pub list_repeated : (r : Result TextSize Refusal) (work' : List ℕ)
    → BasisOutcome 2 1 two_three (replicate 4 777) (replicate 7 0) r work' (bytes "bb\nbbb\n") → ⊥
unfolding bytes_from
list_repeated r work' h =
    let e = h.text ∙ ap (out_for (basis_text 2 1 two_three) (replicate 7 0)) fine ∙ ap (λ t. out_for t (replicate 7 0) none) text_is in
    let z : ◌≡◌ {A = ℕ} 98 10 = ap (λ l. get_or l 1 0) e in omega arith

pub refuse_all : (r : Refusal) (work' out' : List ℕ) → BasisOutcome 2 1 two_three (replicate 4 777) (replicate 7 0) (Err r) work' out' → ⊥
refuse_all r work' out' h =
    let e = h.answer ∙ ap (λ o. unless o (basis_size 2 1 two_three)) fine in let z : ◌≡◌ {A = ℕ} 0 1 = cc in omega arith

pub work_left : (r : Result TextSize Refusal) (out' : List ℕ)
    → BasisOutcome 2 1 two_three (replicate 4 777) (replicate 7 0) r (replicate 4 777) out' → ⊥
unfolding filled
work_left r out' h =
    let e = h.cells ∙ ap (work_for 1 (replicate 4 777)) fine in let z : ◌≡◌ {A = ℕ} 777 0 = ap (λ l. get_or l 0 0) e in omega arith
