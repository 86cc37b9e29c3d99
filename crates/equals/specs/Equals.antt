-- What comparing two lent tables says (document 01: refusals 1, 6, 6, 8, 8, or yes, no), cited by `equal`.
--   same_cells t s      == two lists of cells are the same
--   equal_as n N t m M s == the first refusal; else true exactly if V and the cells of the V rows are the same
--   EqualOutcome        <-> r is that answer. Both tables are lent to be read and stay as they are
-- Assumes nothing.
use Rattle.std.specs.Prelude.{◌≡◌, Bool, true, false, ◌&&◌, List, [], ◌∷◌, ℕ, ◌*◌, eqb, take}
use Rattle.std.specs.declared.result.Result.{Result}
use Rattle.theory.specs.TableRefusals.{equal_refusal}
use Rattle.refusals.specs.declared.Refusal.{Refusal}
use Rattle.refusals.specs.Given.{unless}

unfoldable pub same_cells : List ℕ → List ℕ → Bool
same_cells [] [] = true
same_cells [] (y ∷ s) = false
same_cells (x ∷ t) [] = false
same_cells (x ∷ t) (y ∷ s) = eqb x y && same_cells t s

-- V and the cells of the V rows are the same
abbrev pub is_same : ℕ → ℕ → List ℕ → ℕ → List ℕ → Bool
is_same n N t M s = eqb N M && same_cells (take (N * (2 * n)) t) (take (N * (2 * n)) s)

unfoldable pub equal_as : ℕ → ℕ → List ℕ → ℕ → ℕ → List ℕ → Result Bool Refusal
equal_as n N t m M s = unless (equal_refusal n N t m M s) (is_same n N t M s)

abbrev pub EqualOutcome : ℕ → ℕ → List ℕ → ℕ → ℕ → List ℕ → Result Bool Refusal → Type 0
EqualOutcome n N t m M s r = r ≡ equal_as n N t m M s
