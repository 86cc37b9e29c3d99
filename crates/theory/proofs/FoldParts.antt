-- Laws of the parts of a fold (`specs/Folds`): names, the edge that goes, the point that goes, and pairs.
--   renamed-*    : what renaming a to b does to a, to b and to other names
--   removeAt-*   : the edges without the one at a place
--   without-*    : the points without one
--   pair_one      : renamed, the two edges of a pair are one
--   Fork es a b  <-> one letter leads from one point to both of a and b
--   pair_fork     : so it is with the other ends of a pair
-- Assumes nothing.
use mathlib.Core.Path.{◌≡◌, refl, sym, ◌∙◌, ap}
use mathlib.Core.Logic.{inl, inr, ⊎_elim, by_cases}
use mathlib.Core.List.{List, [], ◌∷◌}
use Prim.Native.Nat.{ℕ, zero, suc, ◌-◌, ◌*◌, ◌<◌, ◌≤◌}
use native.Mathlib.Decide.{ℕ_discrete}
use native.Mathlib.Omega.{arith}
use lib.Dec.{eqb}
use lib.ListN.{length, get_or}
use borrow.Author.Tests.{eq-eqb, ne_eqb, eqb-true, eqb-false}
use Rattle.theory.specs.Words.{inv}
use Rattle.theory.specs.Graphs.{Edge, is_lower, edge_of, Along}
use Rattle.theory.specs.Folds.{Pair, remove_at, renamed, renamed_edge, without}
use Rattle.theory.proofs.WordLaws.{by_test}
use Rattle.theory.proofs.DistinctLaws.{Distinct, mem_get_or}
use Rattle.theory.proofs.MemLaws.{◌∈◌, here, further, mem-cons, mem-none, mem-cast}
use Rattle.theory.proofs.GraphLaws.{edge_path, letter_along, start_end, other_end, edge_along, along_back}

-- ── Names ──

module _ (a b : ℕ) where
  -- the old name becomes the new
  pub renamed_old : renamed a b a ≡ b
  unfolding renamed
  renamed_old = rw (eq-eqb a a refl)

  -- other names stay
  pub renamed_other : (v : ℕ) → (v ≡ a → ⊥) → renamed a b v ≡ v
  unfolding renamed
  renamed_other v n = rw (ne_eqb v a n)

  -- the new name stays
  pub renamed_new : renamed a b b ≡ b
  renamed_new = by_cases (ℕ_discrete b a) (λ e. ap (renamed a b) e ∙ renamed_old) (renamed_other b)

  -- a name replaced by itself changes nothing
  pub renamed_same : a ≡ b → (v : ℕ) → renamed a b v ≡ v
  renamed_same e v =
      by_cases (ℕ_discrete v a) (λ q. ap (renamed a b) q ∙ renamed_old ∙ sym e ∙ sym q) (renamed_other v)

  -- renaming an edge renames the points between which a letter reads it
  pub edge_renamed : (v y x : ℕ) → renamed_edge a b (edge_of v y x) ≡ edge_of (renamed a b v) y (renamed a b x)
  unfolding renamed_edge edge_of
  edge_renamed v y x = by_test (is_lower y) (λ e. rw e) (λ e. rw e)

  -- the end from which a letter reads is renamed
  pub start_renamed : (y : ℕ) (e : Edge) → start_end y (renamed_edge a b e) ≡ renamed a b (start_end y e)
  unfolding renamed_edge
  start_renamed y e = by_test (is_lower y) (λ l. rw l) (λ l. rw l)

  -- and the end to which
  pub other_renamed : (y : ℕ) (e : Edge) → other_end y (renamed_edge a b e) ≡ renamed a b (other_end y e)
  unfolding renamed_edge other_end
  other_renamed y e = by_test (is_lower y) (λ l. rw l) (λ l. rw l)

-- ── One edge less ──

-- one edge goes
pub length-remove_at : (j : ℕ) (es : List Edge) → j < length es → suc (length (remove_at j es)) ≡ length es
unfolding remove_at
length-remove_at j [] h = absurd (omega arith)
length-remove_at zero (e ∷ es) h = refl
length-remove_at (suc j) (e ∷ es) h = ap suc (length-remove_at j es (omega arith))

-- the others were there before
pub remove_at_in : {e : Edge} (j : ℕ) (es : List Edge) → e ∈ remove_at j es → e ∈ es
unfolding remove_at
remove_at_in j [] m = m
remove_at_in zero (e ∷ es) m = further m
remove_at_in (suc j) (e ∷ es) m = ⊎_elim here (λ n. further (remove_at_in j es n)) (mem-cons m)

-- what stands at another place stays
pub remove_at_keeps : (d : Edge) (i j : ℕ) (es : List Edge) → (i ≡ j → ⊥) → i < length es → get_or es i d ∈ remove_at j es
unfolding remove_at
remove_at_keeps d i j [] n h = absurd (omega arith)
remove_at_keeps d zero zero (e ∷ es) n h = absurd (n refl)
remove_at_keeps d zero (suc j) (e ∷ es) n h = here refl
remove_at_keeps d (suc i) zero (e ∷ es) n h = mem_get_or es i d (omega arith)
remove_at_keeps d (suc i) (suc j) (e ∷ es) n h = further (remove_at_keeps d i j es (λ q. n (ap suc q)) (omega arith))

-- ── One point less ──

module _ (a : ℕ) where
  -- other points stay
  pub without_in : {v : ℕ} (l : List ℕ) → (v ≡ a → ⊥) → v ∈ l → v ∈ without a l
  unfolding without
  without_in [] n m = m
  without_in (x ∷ l) n m =
      by_test (eqb x a)
      (λ e. rw e (⊎_elim (λ q. absurd (n (q ∙ eqb-true x a e))) (without_in l n) (mem-cons m)))
      (λ e. rw e (⊎_elim here (λ k. further (without_in l n k)) (mem-cons m)))

  -- what stays was there, and is another point
  pub without_from : {v : ℕ} (l : List ℕ) → v ∈ without a l → (v ∈ l) × (v ≡ a → ⊥)
  unfolding without
  without_from [] m = absurd (mem-none m)
  without_from {v} (x ∷ l) m =
      by_test (eqb x a) (λ e. later (without_from l (rw e at m)))
      (λ e. ⊎_elim (λ q. (here q, λ p. eqb-false x a e (sym q ∙ p))) (λ n. later (without_from l n))
      (mem-cons (rw e at m)))
    where
      later : (v ∈ l) × (v ≡ a → ⊥) → (v ∈ (x ∷ l)) × (v ≡ a → ⊥)
      later t = (further t.0, t.1)

  -- the rest has no repeats where all have none
  pub without_distinct : (l : List ℕ) → Distinct l → Distinct (without a l)
  unfolding without
  without_distinct [] s = tt
  without_distinct (x ∷ l) s =
      by_test (eqb x a) (λ e. rw e (without_distinct l s.1))
      (λ e. rw e (λ m. s.0 (without_from l m).0, without_distinct l s.1))

  -- a point that is not there is not missed
  without_none : (l : List ℕ) → (a ∈ l → ⊥) → length (without a l) ≡ length l
  unfolding without
  without_none [] n = refl
  without_none (x ∷ l) n =
      rw (ne_eqb x a (λ e. n (here (sym e)))) (ap suc (without_none l (λ m. n (further m))))

  -- one point goes where there are no repeats
  pub without_length : (l : List ℕ) → Distinct l → a ∈ l → suc (length (without a l)) ≡ length l
  unfolding without
  without_length [] s m = absurd (mem-none m)
  without_length (x ∷ l) s m =
      by_test (eqb x a) (λ e. rw e (ap suc (without_none l (λ k. s.0 (mem-cast (eqb-true x a e) k)))))
      (λ e. rw e (ap suc (without_length l s.1
      (⊎_elim (λ q. absurd (eqb-false x a e (sym q))) (λ k. k) (mem-cons m)))))

-- ── Pairs ──

-- a pair is one whichever edge comes first
pub pair_sym : (e f : Edge) (a b : ℕ) → Pair e f a b → Pair f e b a
pair_sym e f a b (q, r) = (sym q, ⊎_elim (λ t. inl (sym t.0, t.2, t.1)) (λ t. inr (sym t.0, t.2, t.1)) r)

-- renamed, the two edges of a pair are one
pub pair_one : (e f : Edge) (a b : ℕ) → Pair e f a b → renamed_edge a b e ≡ renamed_edge a b f
unfolding renamed_edge
pair_one e f a b (q, r) =
    ⊎_elim (λ t. edge_path (ap (renamed a b) t.0) q (ends t.1 t.2))
    (λ t. edge_path (ends t.1 t.2) q (ap (renamed a b) t.0)) r
  where
    ends : {c d : ℕ} → c ≡ a → d ≡ b → renamed a b c ≡ renamed a b d
    ends p q = ap (renamed a b) p ∙ renamed_old a b ∙ sym (renamed_new a b) ∙ ap (renamed a b) (sym q)

-- one letter leads from one point to both of a and b
abbrev pub Fork : List Edge → ℕ → ℕ → Type 0
Fork es a b = (p : ℕ) × (y : ℕ) × Along es p y a × Along es p y b

-- the other ends of the two edges of a pair are such
pub pair_fork : {es : List Edge} (e f : Edge) (a b : ℕ) → ((d : Edge) → d ∈ es → 1 ≤ d.generator) → e ∈ es → f ∈ es
    → Pair e f a b → Fork es a b
pair_fork {es} e f a b ok m n (q, r) =
    ⊎_elim
    (λ t. (e.source, l, reads e m e.source a refl refl t.1, reads f n e.source b (sym t.0) (sym q) t.2))
    (λ t. (
      e.target,
      inv l,
      along_back a l e.target (reads e m a e.target t.1 refl refl),
      along_back b l e.target (reads f n b e.target t.2 (sym q) (sym t.0)),
    ))
    r
  where
    l : ℕ
    l = letter_along e

    reads : (d : Edge) → d ∈ es → (v x : ℕ) → d.source ≡ v → d.generator ≡ e.generator → d.target ≡ x
        → Along es v l x
    reads d k v x s g t =
        mem-cast ((λ i. edge_of (sym s i) (2 * (sym g i - 1)) (sym t i)) ∙ edge_along d (ok d k)) k
