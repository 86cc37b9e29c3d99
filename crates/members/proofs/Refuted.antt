-- Wrong programs that have no place in the code: for each an input on which its outcome does not conform. The table has one point and no
-- edge, over one generator.
--   refuse_all  : not every query is refused (the empty query)
--   outside_all : nor outside (the empty query)
--   inside_all  : nor inside (the query a)
-- Assumes nothing.
use mathlib.Core.Path.{◌≡◌, refl, ◌∙◌}
use mathlib.Core.Bool.{true, false}
use mathlib.Core.List.{List, [], ◌∷◌}
use Prim.Native.Nat.{ℕ}
use native.Mathlib.Omega.{arith}
use Rattle.std.specs.declared.result.Result.TheVariants.{Ok, Err}
use Rattle.theory.specs.Words.{inv, put, reduced_by}
use Rattle.theory.specs.Letters.{letter_bytes, place_in, letter_of, is_letter, up_to, usual}
use Rattle.theory.specs.Refusals.{is_alphabet, byte_refusal, bytes_refusal, is_unended, text_refusal}
use Rattle.theory.specs.Tables.{absent, cell, end_of, is_accepted}
use Rattle.theory.specs.Canonical.{
  row_of,
  rows_before,
  earlier,
  greatest_met,
  present,
  is_in,
  breaks_cell,
  breaks_row,
  is_faulty,
  least,
  first_place,
  faulty_cell,
}
use Rattle.theory.specs.TableRefusals.{is_lent, cell_refusal, member_refusal}
use Rattle.refusals.specs.declared.Refusal.{Refusal}
use Rattle.members.specs.Members.{answer_as, MemberOutcome}

-- the table of one point and no edge
abbrev bare : List ℕ
bare = absent ∷ absent ∷ []

empty_inside : answer_as 1 1 bare [] 0 ≡ Ok true
unfolding answer_as member_refusal text_refusal is_alphabet bytes_refusal is_unended is_lent cell_refusal faulty_cell first_place least is_faulty breaks_row breaks_cell is_in present greatest_met earlier rows_before row_of usual up_to cell is_accepted end_of reduced_by
empty_inside = refl

letter_outside : answer_as 1 1 bare (97 ∷ []) 1 ≡ Ok false
unfolding answer_as member_refusal text_refusal is_alphabet byte_refusal bytes_refusal is_letter letter_of place_in letter_bytes is_unended is_lent cell_refusal faulty_cell first_place least is_faulty breaks_row breaks_cell is_in present greatest_met earlier rows_before row_of usual up_to cell is_accepted end_of reduced_by put inv
letter_outside = refl

pub refuse_all : (r : Refusal) (after : List ℕ) → MemberOutcome 1 1 bare [] [] (Err r) after → ⊥
refuse_all r after h =
    let e : Err r ≡ Ok true = h.answer ∙ empty_inside in
    let z : ◌≡◌ {A = ℕ} 0 1 = cc in omega arith

pub outside_all : (after : List ℕ) → MemberOutcome 1 1 bare [] [] (Ok false) after → ⊥
outside_all after h =
    let e : Ok false ≡ Ok true = h.answer ∙ empty_inside in
    let z : ◌≡◌ {A = ℕ} 0 1 = cc in omega arith

pub inside_all : (after : List ℕ) → MemberOutcome 1 1 bare (97 ∷ []) (0 ∷ []) (Ok true) after → ⊥
inside_all after h =
    let e : Ok true ≡ Ok false = h.answer ∙ letter_outside in
    let z : ◌≡◌ {A = ℕ} 0 1 = cc in omega arith
