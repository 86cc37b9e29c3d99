-- Wrong programs that have no place in the code: for each an input on which its outcome does not conform.
--   refuse_all     : not every table is refused (a point without an edge, over one generator)
--   refuse_nothing : nor none (n = 0)
--   one_answer     : no figures are those of all tables (that point, and a point with a loop)
--   other_cell     : a broken inverse rule is not placed at the cell of the way back (an edge that has none)
-- Assumes nothing.
use mathlib.Core.Path.{◌≡◌, refl, sym, ◌∙◌, ap}
use mathlib.Core.List.{List, [], ◌∷◌}
use Prim.Native.Nat.{ℕ}
use native.Mathlib.Omega.{arith}
use Rattle.std.specs.declared.option.Option.TheVariants.{None, Some}
use Rattle.std.specs.declared.result.Result.TheVariants.{Ok, Err}
use Rattle.theory.specs.Words.{inv}
use Rattle.theory.specs.Letters.{up_to, usual}
use Rattle.theory.specs.Refusals.{is_alphabet}
use Rattle.theory.specs.TableRefusals.{is_lent, cell_refusal, check_refusal}
use Rattle.theory.specs.Tables.{absent, cell}
use Rattle.theory.specs.Canonical.{
  row_of,
  rows_before,
  earlier,
  greatest_met,
  present,
  is_in,
  breaks_cell,
  breaks_row,
  is_faulty,
  least,
  first_place,
  faulty_cell,
}
use Rattle.theory.specs.Basis.{spots_of, scan, those, edges_of, rank_of, all, is_full, index_of}
use Rattle.refusals.specs.declared.Cause.TheVariants.{Faulty}
use Rattle.refusals.specs.declared.Refusal.{Refusal}
use Rattle.tables.specs.Checks.{figures_as, checked_as, CheckOutcome}
use Rattle.tables.specs.declared.Figures.{Figures}

-- one point over one generator, without an edge, and with a loop
abbrev point : List ℕ
point = absent ∷ absent ∷ []

abbrev loop : List ℕ
loop = 0 ∷ 0 ∷ []

-- two points, and an edge from the first to the second that has no way back
abbrev one_way : List ℕ
one_way = 1 ∷ absent ∷ absent ∷ absent ∷ []

checked
    : (checked_as 1 1 point ≡ Ok (record { edges = 0; rank = 0; index = None }))
    × (checked_as 1 1 loop ≡ Ok (record { edges = 1; rank = 1; index = Some 1 }))
    × (checked_as 1 2 one_way ≡ Err (record { cause = Faulty; place = 0 }))
unfolding checked_as check_refusal is_alphabet is_lent cell_refusal faulty_cell first_place least is_faulty breaks_row breaks_cell cell usual up_to
    row_of rows_before earlier greatest_met present is_in inv figures_as edges_of rank_of index_of is_full all those scan spots_of
checked = (refl, refl, refl)

pub refuse_all : (r : Refusal) → CheckOutcome 1 1 point (Err r) → ⊥
refuse_all r h = let q = h ∙ checked.0 in let z : ◌≡◌ {A = ℕ} 0 1 = cc in omega arith

pub refuse_nothing : (f : Figures) → CheckOutcome 0 1 point (Ok f) → ⊥
unfolding checked_as check_refusal is_alphabet
refuse_nothing f h = let z : ◌≡◌ {A = ℕ} 0 1 = cc in omega arith

pub one_answer : (f : Figures) → CheckOutcome 1 1 point (Ok f) → CheckOutcome 1 1 loop (Ok f) → ⊥
one_answer f h k =
    let a : f ≡ record { edges = 0; rank = 0; index = None } = cc (h ∙ checked.0) in
    let b : f ≡ record { edges = 1; rank = 1; index = Some 1 } = cc (k ∙ checked.1) in
    let z : ◌≡◌ {A = ℕ} 0 1 = sym (ap (λ (g : Figures). g.edges) a) ∙ ap (λ (g : Figures). g.edges) b in
    omega arith

pub other_cell : CheckOutcome 1 2 one_way (Err (record { cause = Faulty; place = 3 })) → ⊥
other_cell h =
    let a : ◌≡◌ {A = Refusal} (record { cause = Faulty; place = 3 }) (record { cause = Faulty; place = 0 }) = cc (h ∙ checked.2) in
    let z : ◌≡◌ {A = ℕ} 3 0 = ap (λ (r : Refusal). r.place) a in
    omega arith
