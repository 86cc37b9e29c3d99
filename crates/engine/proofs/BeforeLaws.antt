-- The cells that come before a place (theory, `Canonical`), where one cell more comes or others change.
--   earlier_same    : where the cells before a place are the same, so is their list
--   greatest_snoc, greatest_absent : the greatest point met with one cell more
--   before_suc      : a place before the next is before this one or this one
-- Assumes nothing.
use mathlib.Core.Path.{◌≡◌, refl, sym, ◌∙◌, ap}
use mathlib.Core.Logic.{◌⊎◌, inl, inr, ⊎_elim, by_cases}
use mathlib.Core.List.{List, [], ◌∷◌, ◌++◌}
use Prim.Native.Nat.{ℕ, zero, suc, ◌≤◌, ◌<◌, max}
use native.Mathlib.Decide.{ℕ_discrete}
use native.Mathlib.Omega.{arith}
use lib.ListN.{length, get_or}
use borrow.Author.Tests.{ne_eqb}
use Rattle.theory.specs.Tables.{absent, Cells}
use Rattle.theory.specs.Canonical.{earlier, greatest_met}
use Rattle.theory.proofs.PlaceLaws.{ComesBefore}
use Rattle.theory.proofs.RowLaws.{earlier_start, earlier_suc, earlier_row, greatest_met-append}

module _ (c d : Cells) (ys : List ℕ) where
  row_same : (v i : ℕ) → i ≤ length ys → ((j : ℕ) → j < i → d v (get_or ys j 0) ≡ c v (get_or ys j 0))
      → earlier d ys v 0 ≡ earlier c ys v 0 → earlier d ys v i ≡ earlier c ys v i
  row_same v zero h f e = e
  row_same v (suc i) h f e =
      earlier_suc d ys v i (omega arith)
      ∙ snoc (row_same v i (omega arith) (λ j g. f j (omega arith)) e) (f i (omega arith))
      ∙ sym (earlier_suc c ys v i (omega arith))
    where
      snoc : {k l : List ℕ} {a b : ℕ} → k ≡ l → a ≡ b → k ++ (a ∷ []) ≡ l ++ (b ∷ [])
      snoc p q = rw (p, q)

  rows_same : (v : ℕ) → ((u j : ℕ) → u < v → j < length ys → d u (get_or ys j 0) ≡ c u (get_or ys j 0))
      → earlier d ys v 0 ≡ earlier c ys v 0
  rows_same zero f = earlier_start d ys ∙ sym (earlier_start c ys)
  rows_same (suc v) f =
      earlier_row d ys v
      ∙ row_same v (length ys) (omega arith) (λ j g. f v j (omega arith) g)
      (rows_same v (λ u j g h. f u j (omega arith) h))
      ∙ sym (earlier_row c ys v)

  -- where the cells before a place are the same, so is their list
  pub earlier_same : (v i : ℕ) → i ≤ length ys
      → ((u j : ℕ) → ComesBefore u j v i → j < length ys → d u (get_or ys j 0) ≡ c u (get_or ys j 0))
      → earlier d ys v i ≡ earlier c ys v i
  earlier_same v i h f =
      row_same v i h (λ j g. f v j (inr (refl, g)) (omega arith)) (rows_same v (λ u j g b. f u j (inl g) b))

-- to come before is transitive
pub before_trans : (a b u j v i : ℕ) → ComesBefore a b u j → ComesBefore u j v i → ComesBefore a b v i
before_trans a b u j v i s t =
    ⊎_elim
    (λ p. ⊎_elim (λ q. inl (omega arith)) (λ q. inl (omega (arith, q.0))) t)
    (λ p. ⊎_elim (λ q. inl (omega (arith, p.0))) (λ q. inr (p.0 ∙ q.0, omega (arith, p.1, q.1))) t) s

-- one cell more, empty, leaves the greatest point met
pub greatest_absent : (l : List ℕ) → greatest_met (l ++ (absent ∷ [])) ≡ greatest_met l
unfolding greatest_met
greatest_absent l = greatest_met-append l (absent ∷ []) ∙ ap (max (greatest_met l)) one ∙ omega arith
  where
    one : greatest_met (absent ∷ []) ≡ 0
    one = refl

-- one cell more raises it to that cell
pub greatest_snoc : (l : List ℕ) (x : ℕ) → (x ≡ absent → ⊥) → greatest_met (l ++ (x ∷ [])) ≡ max (greatest_met l) x
unfolding greatest_met
greatest_snoc l x n =
    greatest_met-append l (x ∷ []) ∙ ap (max (greatest_met l)) one
  where
    one : greatest_met (x ∷ []) ≡ x
    one = rw (ne_eqb x absent n) (omega arith)

-- a place before the next is before this one or this one
pub before_suc : (u j v i : ℕ) → ComesBefore u j v (suc i) → ComesBefore u j v i ⊎ ((u ≡ v) × (j ≡ i))
before_suc u j v i s =
    ⊎_elim (λ h. inl (inl h))
    (λ h. by_cases (ℕ_discrete j i) (λ e. inr (h.0, e)) (λ e. inl (inr (h.0, omega (arith, h.1))))) s
