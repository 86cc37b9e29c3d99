-- Wrong programs that have no place in the code: for each an input on which its outcome does not conform. The tables have one point, over
-- one generator: one has the edge of a, the other none.
--   refuse_all         : not every query is refused (the query a, where the edge is)
--   non_member         : no expression is said of a query that is not a member (the query a, where no edge is)
--   numbers_unwritten  : nor is the output left as it was for a member (the query a)
--   sign_lost          : nor does an edge read backwards have the number of one read forwards (the query A)
-- Assumes nothing.
use mathlib.Core.Path.{◌≡◌, refl, ◌∙◌, ap}
use mathlib.Core.Option.{none}
use mathlib.Core.List.{List, [], ◌∷◌}
use Prim.Native.Nat.{ℕ}
use native.Mathlib.Omega.{arith}
use lib.IntN.{ℤ, pos, negsuc, nat_abs}
use lib.ListN.{get_or}
use Rattle.std.specs.declared.option.Option.{Option}
use Rattle.std.specs.declared.option.Option.TheVariants.{None, Some}
use Rattle.std.specs.declared.result.Result.{Result}
use Rattle.std.specs.declared.result.Result.TheVariants.{Ok, Err}
use Rattle.theory.specs.Words.{inv, put, reduced_by}
use Rattle.theory.specs.Letters.{letter_bytes, place_in, letter_of, is_letter, up_to, usual}
use Rattle.theory.specs.Refusals.{is_alphabet, byte_refusal, bytes_refusal, is_unended, text_refusal}
use Rattle.theory.specs.Tables.{absent, cell, end_of, is_accepted}
use Rattle.theory.specs.Canonical.{
  row_of,
  rows_before,
  earlier,
  greatest_met,
  present,
  is_in,
  breaks_cell,
  breaks_row,
  is_faulty,
  least,
  first_place,
  faulty_cell,
}
use Rattle.theory.specs.TableRefusals.{is_lent, cell_refusal, member_refusal}
use Rattle.theory.specs.Basis.{
  spots_of,
  scan,
  first_met,
  is_path_step,
  is_path_edge,
  those,
  edges_of,
  outside_edges,
  number_in,
  crossing,
  crossings,
  expression_of,
}
use Rattle.refusals.specs.declared.Refusal.{Refusal}
use Rattle.refusals.specs.Given.{unless}
use Rattle.expressions.specs.Expressions.{numbers_of, express_refusal, expressed_of, out_for, ExpressOutcome}

-- one point and no edge
abbrev bare : List ℕ
bare = absent ∷ absent ∷ []

-- one point and the edge of a
abbrev ring : List ℕ
ring = 0 ∷ 0 ∷ []

-- the byte of a, and that of A
abbrev forth : List ℕ
forth = 97 ∷ []

abbrev back : List ℕ
back = 65 ∷ []

abbrev dirty : List ℤ
dirty = pos 7 ∷ []

ring_fine : express_refusal 1 1 ring forth 1 1 ≡ none
unfolding express_refusal member_refusal text_refusal is_alphabet byte_refusal bytes_refusal is_letter letter_of place_in letter_bytes is_unended is_lent cell_refusal faulty_cell first_place least is_faulty breaks_row breaks_cell is_in present greatest_met earlier rows_before row_of usual up_to cell is_accepted end_of reduced_by put inv numbers_of expression_of crossings crossing number_in outside_edges edges_of those is_path_edge is_path_step first_met scan spots_of
ring_fine = refl

ring_out : out_for 1 1 ring forth dirty none ≡ pos 1 ∷ []
unfolding express_refusal member_refusal text_refusal is_alphabet byte_refusal bytes_refusal is_letter letter_of place_in letter_bytes is_unended is_lent cell_refusal faulty_cell first_place least is_faulty breaks_row breaks_cell is_in present greatest_met earlier rows_before row_of usual up_to cell is_accepted end_of reduced_by put inv numbers_of expression_of crossings crossing number_in outside_edges edges_of those is_path_edge is_path_step first_met scan spots_of
ring_out = refl

back_fine : express_refusal 1 1 ring back 1 1 ≡ none
unfolding express_refusal member_refusal text_refusal is_alphabet byte_refusal bytes_refusal is_letter letter_of place_in letter_bytes is_unended is_lent cell_refusal faulty_cell first_place least is_faulty breaks_row breaks_cell is_in present greatest_met earlier rows_before row_of usual up_to cell is_accepted end_of reduced_by put inv numbers_of expression_of crossings crossing number_in outside_edges edges_of those is_path_edge is_path_step first_met scan spots_of
back_fine = refl

back_out : out_for 1 1 ring back dirty none ≡ negsuc 0 ∷ []
unfolding express_refusal member_refusal text_refusal is_alphabet byte_refusal bytes_refusal is_letter letter_of place_in letter_bytes is_unended is_lent cell_refusal faulty_cell first_place least is_faulty breaks_row breaks_cell is_in present greatest_met earlier rows_before row_of usual up_to cell is_accepted end_of reduced_by put inv numbers_of expression_of crossings crossing number_in outside_edges edges_of those is_path_edge is_path_step first_met scan spots_of
back_out = refl

bare_fine : express_refusal 1 1 bare forth 1 1 ≡ none
unfolding express_refusal member_refusal text_refusal is_alphabet byte_refusal bytes_refusal is_letter letter_of place_in letter_bytes is_unended is_lent cell_refusal faulty_cell first_place least is_faulty breaks_row breaks_cell is_in present greatest_met earlier rows_before row_of usual up_to cell is_accepted end_of reduced_by put inv numbers_of expression_of crossings crossing number_in outside_edges edges_of those is_path_edge is_path_step first_met scan spots_of
bare_fine = refl

bare_outside : expressed_of 1 1 bare forth ≡ None
unfolding express_refusal member_refusal text_refusal is_alphabet byte_refusal bytes_refusal is_letter letter_of place_in letter_bytes is_unended is_lent cell_refusal faulty_cell first_place least is_faulty breaks_row breaks_cell is_in present greatest_met earlier rows_before row_of usual up_to cell is_accepted end_of reduced_by put inv numbers_of expression_of crossings crossing number_in outside_edges edges_of those is_path_edge is_path_step first_met scan spots_of
bare_outside = refl

pub refuse_all : (r : Refusal) (work' : List ℕ) (out' : List ℤ) → ExpressOutcome 1 1 ring forth (777 ∷ []) dirty (Err r) work' out' → ⊥
refuse_all r work' out' h =
    let e : Err r ≡ Ok (expressed_of 1 1 ring forth) = h.answer ∙ ap (λ o. unless o (expressed_of 1 1 ring forth)) ring_fine in
    let z : ◌≡◌ {A = ℕ} 0 1 = cc in omega arith

pub non_member : (k : ℕ) (work' : List ℕ) (out' : List ℤ) → ExpressOutcome 1 1 bare forth (777 ∷ []) dirty (Ok (Some k)) work' out' → ⊥
non_member k work' out' h =
    let e : Ok (Some k) ≡ Ok None = h.answer ∙ ap (λ o. unless o (expressed_of 1 1 bare forth)) bare_fine ∙ ap Ok bare_outside in
    let z : ◌≡◌ {A = ℕ} 0 1 = cc in omega arith

pub numbers_unwritten : (r : Result (Option ℕ) Refusal) (work' : List ℕ) → ExpressOutcome 1 1 ring forth (777 ∷ []) dirty r work' dirty → ⊥
numbers_unwritten r work' h =
    let e : dirty ≡ pos 1 ∷ [] = h.numbers ∙ ap (out_for 1 1 ring forth dirty) ring_fine ∙ ring_out in
    let z : ◌≡◌ {A = ℕ} 7 1 = ap (λ l. nat_abs (get_or l 0 (pos 0))) e in omega arith

pub sign_lost : (r : Result (Option ℕ) Refusal) (work' : List ℕ) → ExpressOutcome 1 1 ring back (777 ∷ []) dirty r work' (pos 1 ∷ []) → ⊥
sign_lost r work' h =
    let e : pos 1 ∷ [] ≡ negsuc 0 ∷ [] = h.numbers ∙ ap (out_for 1 1 ring back dirty) back_fine ∙ back_out in
    let z : ◌≡◌ {A = ℕ} 1 0 = ap (λ l. size_above (get_or l 0 (pos 0))) e in omega arith
  where
    -- a positive number, or 0 for another
    size_above : ℤ → ℕ
    size_above (pos k) = k
    size_above (negsuc k) = 0
