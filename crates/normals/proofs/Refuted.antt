-- Wrong programs that have no place in the code: for each an outcome that does not conform.
--   refuse_all : not every table is refused
--   other_all  : not every subgroup is other than normal: one of index 2 is normal
--   normal_all : nor is every subgroup normal: that of the word ab is not
--   work_left  : the work cells are not left as they were
-- Assumes nothing.
use mathlib.Core.Path.{◌≡◌, refl, ◌∙◌, ap}
use mathlib.Core.Bool.{Bool, true, false}
use mathlib.Core.Option.{none}
use mathlib.Core.List.{List, [], ◌∷◌}
use Prim.Native.Nat.{ℕ}
use native.Mathlib.Omega.{arith}
use lib.ListN.{get_or, replicate}
use Rattle.theory.specs.Words.{inv, put, reduced_by, inverse_by}
use Rattle.theory.specs.Letters.{up_to, usual}
use Rattle.theory.specs.Refusals.{is_alphabet}
use Rattle.theory.specs.TableRefusals.{is_lent, cell_refusal}
use Rattle.theory.specs.Tables.{absent, cell, end_of}
use Rattle.theory.specs.Canonical.{row_of, rows_before, earlier, greatest_met, present, is_in, breaks_cell, breaks_row, is_faulty, least, first_place, faulty_cell}
use Rattle.theory.specs.Basis.{spots_of, scan, first_met, path_from, path_of, is_path_step, is_path_edge, those, edges_of, outside_edges, basis_word, basis_of, all, leads_back, is_normal}
use Rattle.cells.specs.Filled.{filled}
use Rattle.std.specs.declared.result.Result.{Result}
use Rattle.std.specs.declared.result.Result.TheVariants.{Ok, Err}
use Rattle.refusals.specs.declared.Refusal.{Refusal}
use Rattle.refusals.specs.Given.{unless}
use Rattle.bases.specs.Bases.{early_refusal}
use Rattle.normals.specs.Normals.{normal_refusal, work_for, NormalOutcome}

-- the table of aaB, bAba, abA and aaaaaa: a leads to the other of its two points, b to the same
abbrev even : List ℕ
even = 1 ∷ 1 ∷ 0 ∷ 0 ∷ 0 ∷ 0 ∷ 1 ∷ 1 ∷ []

-- the table of ab: a leads from the base, b back to it
abbrev circle : List ℕ
circle = 1 ∷ absent ∷ absent ∷ 1 ∷ absent ∷ 0 ∷ 0 ∷ absent ∷ []

even_fine : normal_refusal 2 2 even 8 ≡ none
unfolding normal_refusal early_refusal is_alphabet is_lent cell_refusal faulty_cell first_place least is_faulty breaks_row breaks_cell is_in present greatest_met earlier rows_before row_of usual up_to cell inv
even_fine = refl

circle_fine : normal_refusal 2 2 circle 8 ≡ none
unfolding normal_refusal early_refusal is_alphabet is_lent cell_refusal faulty_cell first_place least is_faulty breaks_row breaks_cell is_in present greatest_met earlier rows_before row_of usual up_to cell inv
circle_fine = refl

even_normal : is_normal (cell 2 2 even) 2 (usual 2) ≡ true
unfolding is_normal leads_back all end_of basis_of basis_word outside_edges edges_of those is_path_edge is_path_step path_of path_from first_met scan spots_of first_place least cell usual up_to reduced_by put inverse_by inv
even_normal = refl

circle_not : is_normal (cell 2 2 circle) 2 (usual 2) ≡ false
unfolding is_normal leads_back all end_of basis_of basis_word outside_edges edges_of those is_path_edge is_path_step path_of path_from first_met scan spots_of first_place least cell usual up_to reduced_by put inverse_by inv
circle_not = refl

pub refuse_all : (r : Refusal) (after : List ℕ) → NormalOutcome 2 2 even (replicate 8 777) (Err r) after → ⊥
refuse_all r after h =
    let e = h.answer ∙ ap (λ o. unless o (is_normal (cell 2 2 even) 2 (usual 2))) even_fine ∙ ap Ok even_normal in
    let z : ◌≡◌ {A = ℕ} 0 1 = cc in omega arith

pub other_all : (after : List ℕ) → NormalOutcome 2 2 even (replicate 8 777) (Ok false) after → ⊥
other_all after h =
    let e = h.answer ∙ ap (λ o. unless o (is_normal (cell 2 2 even) 2 (usual 2))) even_fine ∙ ap Ok even_normal in
    let z : ◌≡◌ {A = ℕ} 0 1 = cc in omega arith

pub normal_all : (after : List ℕ) → NormalOutcome 2 2 circle (replicate 8 777) (Ok true) after → ⊥
normal_all after h =
    let e = h.answer ∙ ap (λ o. unless o (is_normal (cell 2 2 circle) 2 (usual 2))) circle_fine ∙ ap Ok circle_not in
    let z : ◌≡◌ {A = ℕ} 0 1 = cc in omega arith

pub work_left : (r : Result Bool Refusal) → NormalOutcome 2 2 even (replicate 8 777) r (replicate 8 777) → ⊥
unfolding filled
work_left r h =
    let e = h.cells ∙ ap (work_for 2 (replicate 8 777)) even_fine in
    let z : ◌≡◌ {A = ℕ} 777 0 = ap (λ l. get_or l 0 0) e in omega arith
