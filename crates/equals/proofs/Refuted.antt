-- Wrong programs that have no place in the code: for each an input on which its answer does not conform. One table has one point and no
-- edge, the other one point and a loop, over one generator.
--   refuse_all : not all tables are refused (a table against itself)
--   no_all     : nor never equal (a table against itself)
--   yes_all    : nor always equal (no edge against the loop)
-- Assumes nothing.
use mathlib.Core.Path.{◌≡◌, refl, ◌∙◌}
use mathlib.Core.Bool.{true, false}
use mathlib.Core.List.{List, [], ◌∷◌}
use Prim.Native.Nat.{ℕ}
use native.Mathlib.Omega.{arith}
use Rattle.std.specs.declared.result.Result.TheVariants.{Ok, Err}
use Rattle.theory.specs.Words.{inv}
use Rattle.theory.specs.Letters.{up_to, usual}
use Rattle.theory.specs.Refusals.{is_alphabet}
use Rattle.theory.specs.Tables.{absent, cell}
use Rattle.theory.specs.Canonical.{
  row_of,
  rows_before,
  earlier,
  greatest_met,
  present,
  is_in,
  breaks_cell,
  breaks_row,
  is_faulty,
  least,
  first_place,
  faulty_cell,
}
use Rattle.theory.specs.TableRefusals.{is_lent, cell_refusal, equal_refusal}
use Rattle.refusals.specs.declared.Refusal.{Refusal}
use Rattle.equals.specs.Equals.{same_cells, is_same, equal_as, EqualOutcome}

-- one point and no edge; one point and a loop
abbrev bare : List ℕ
bare = absent ∷ absent ∷ []

abbrev loop : List ℕ
loop = 0 ∷ 0 ∷ []

bare_itself : equal_as 1 1 bare 1 1 bare ≡ Ok true
unfolding equal_as is_same equal_refusal is_alphabet is_lent cell_refusal faulty_cell first_place least is_faulty breaks_row breaks_cell is_in present greatest_met earlier rows_before row_of usual up_to cell same_cells
bare_itself = refl

bare_loop : equal_as 1 1 bare 1 1 loop ≡ Ok false
unfolding equal_as is_same equal_refusal is_alphabet is_lent cell_refusal faulty_cell first_place least is_faulty breaks_row breaks_cell is_in present greatest_met earlier rows_before row_of usual up_to cell inv same_cells
bare_loop = refl

pub refuse_all : (r : Refusal) → EqualOutcome 1 1 bare 1 1 bare (Err r) → ⊥
refuse_all r h =
    let e : Err r ≡ Ok true = h ∙ bare_itself in
    let z : ◌≡◌ {A = ℕ} 0 1 = cc in omega arith

pub no_all : EqualOutcome 1 1 bare 1 1 bare (Ok false) → ⊥
no_all h =
    let e : Ok false ≡ Ok true = h ∙ bare_itself in
    let z : ◌≡◌ {A = ℕ} 0 1 = cc in omega arith

pub yes_all : EqualOutcome 1 1 bare 1 1 loop (Ok true) → ⊥
yes_all h =
    let e : Ok true ≡ Ok false = h ∙ bare_loop in
    let z : ◌≡◌ {A = ℕ} 0 1 = cc in omega arith
