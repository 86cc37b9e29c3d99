-- The comparison of cells on plain values.
--   same_equal, equal_same : lists of the same cells are equal, and back
--   pointwise_same         : `==` of two slices says that the cells are the same
-- Assumes nothing.
use mathlib.Core.Path.{◌≡◌, refl, sym, ap}
use mathlib.Core.Bool.{true, ◌&&◌, true≢false}
use mathlib.Core.List.{List, [], ◌∷◌}
use Prim.Native.Nat.{ℕ}
use lib.Dec.{eqb}
use borrow.Author.Tests.{eq-eqb, eqb-true}
use Rattle.std.specs.Cmp.Lexicographic.{pointwise}
use Rattle.theory.proofs.RefusalLaws.{and_true}
use Rattle.equals.specs.Equals.{same_cells}

pub same_equal : (t s : List ℕ) → same_cells t s ≡ true → t ≡ s
unfolding same_cells
same_equal [] [] e = refl
same_equal [] (y ∷ s) e = absurd (true≢false (sym e))
same_equal (x ∷ t) [] e = absurd (true≢false (sym e))
same_equal (x ∷ t) (y ∷ s) e =
    let h = and_true (eqb x y) (same_cells t s) e in
    let a = eqb-true x y h.0 in
    let b = same_equal t s h.1 in
    (cc)

pub equal_same : (t : List ℕ) → same_cells t t ≡ true
unfolding same_cells
equal_same [] = refl
equal_same (x ∷ t) = rw (eq-eqb x x refl) (equal_same t)

pub pointwise_same : (t s : List ℕ) → pointwise eqb t s ≡ same_cells t s
unfolding same_cells
pointwise_same [] [] = refl
pointwise_same [] (y ∷ s) = refl
pointwise_same (x ∷ t) [] = refl
pointwise_same (x ∷ t) (y ∷ s) = ap (λ b. eqb x y && b) (pointwise_same t s)
