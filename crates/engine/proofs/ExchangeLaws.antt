-- Laws of the exchange of two names (`specs/Cells`): an isomorphism, and where neither name is 0 it fixes the base.
--   exchanged_leads, exchanged_reads : what reads, reads after renaming
--   exchanged_accepts : acceptance is unchanged
--   exchanged_ready   : what numbering asks of the cells is kept
-- The turns by which it is done are in `TradeLaws`. Assumes nothing.
use mathlib.Core.Path.{◌≡◌, refl, sym, ◌∙◌, ap, subst, subst₂}
use mathlib.Core.Logic.{by_cases, ◌↔◌}
use mathlib.Core.List.{List, [], ◌∷◌}
use Prim.Native.Nat.{ℕ, ◌≤◌, ◌<◌}
use native.Mathlib.Decide.{ℕ_discrete}
use native.Mathlib.Omega.{arith}
use borrow.Author.Tests.{eq-eqb, ne_eqb}
use Rattle.theory.specs.Words.{inv, reduced}
use Rattle.theory.specs.Tables.{absent, Cells, Leads, Reads, Accepts}
use Rattle.theory.proofs.GraphLaws.{Turns}
use Rattle.theory.proofs.OneTable.{leads_here}
use Rattle.engine.specs.Cells.{transposed, exchanged}
use Rattle.engine.specs.Numbering.{Reached, Two, Lettered, Ready}

-- ── The transposition ──

module _ (k p : ℕ) where
  -- k takes the name p
  pub transposed_first : transposed k p k ≡ p
  unfolding transposed
  transposed_first = rw (eq-eqb k k refl)

  -- and p the name k
  pub transposed_second : transposed k p p ≡ k
  unfolding transposed
  transposed_second =
      by_cases (ℕ_discrete p k) (λ e. rw (eq-eqb p k e) e) (λ e. rw (ne_eqb p k e, eq-eqb p p refl))

  -- every other name stays
  pub transposed_other : (v : ℕ) → (v ≡ k → ⊥) → (v ≡ p → ⊥) → transposed k p v ≡ v
  unfolding transposed
  transposed_other v e d = rw (ne_eqb v k e, ne_eqb v p d)

  -- it is its own inverse
  pub transposed_twice : (v : ℕ) → transposed k p (transposed k p v) ≡ v
  transposed_twice v =
      by_cases (ℕ_discrete v k)
      (λ e. ap (λ x. transposed k p (transposed k p x)) e ∙ ap (transposed k p) transposed_first ∙ transposed_second ∙ sym e)
      (λ e. by_cases (ℕ_discrete v p)
      (λ d. ap (λ x. transposed k p (transposed k p x)) d ∙ ap (transposed k p) transposed_second ∙ transposed_first ∙ sym d)
      (λ d. ap (transposed k p) (transposed_other v e d) ∙ transposed_other v e d))

  -- a name and itself exchanged: nothing happens
  pub transposed_own : (v : ℕ) → k ≡ p → transposed k p v ≡ v
  transposed_own v q =
      by_cases (ℕ_discrete v k) (λ e. ap (transposed k p) e ∙ transposed_first ∙ sym (e ∙ q))
      (λ e. transposed_other v e (λ d. e (d ∙ sym q)))

-- where the two names are equal, cells are unchanged
pub exchanged_own : (c : Cells) (k p v y : ℕ) → k ≡ p → exchanged c k p v y ≡ c v y
unfolding exchanged
exchanged_own c k p v y q =
    transposed_own k p (c (transposed k p v) y) q ∙ ap (λ u. c u y) (transposed_own k p v q)

-- cells that have nothing to do with the two names are unchanged
pub exchanged_other : (c : Cells) (k p v y : ℕ) → (v ≡ k → ⊥) → (v ≡ p → ⊥) → (c v y ≡ k → ⊥) → (c v y ≡ p → ⊥)
    → exchanged c k p v y ≡ c v y
unfolding exchanged
exchanged_other c k p v y a b d e =
    ap (λ u. transposed k p (c u y)) (transposed_other k p v a b) ∙ transposed_other k p (c v y) d e

-- ── An isomorphism ──

module _ (c : Cells) (k p : ℕ) (nk : k ≡ absent → ⊥) (np : p ≡ absent → ⊥) where
  -- absent stays absent
  pub transposed_absent : transposed k p absent ≡ absent
  transposed_absent = transposed_other k p absent (λ e. nk (sym e)) (λ e. np (sym e))

  -- points go to points
  pub transposed_point : (v : ℕ) → (v ≡ absent → ⊥) → transposed k p v ≡ absent → ⊥
  transposed_point v n e = n (sym (transposed_twice k p v) ∙ ap (transposed k p) e ∙ transposed_absent)

  -- what reads, reads after renaming
  pub exchanged_leads : (v y x : ℕ) → Leads c v y x → Leads (exchanged c k p) (transposed k p v) y (transposed k p x)
  unfolding exchanged
  exchanged_leads v y x l = (
    ap (λ u. transposed k p (c u y)) (transposed_twice k p v) ∙ ap (transposed k p) l.0,
    transposed_point x l.1,
  )

  -- what reads after renaming, read before
  pub exchanged_back : (v y x : ℕ) → Leads (exchanged c k p) v y x → Leads c (transposed k p v) y (transposed k p x)
  unfolding exchanged
  exchanged_back v y x l = (
    sym (transposed_twice k p (c (transposed k p v) y)) ∙ ap (transposed k p) l.0,
    transposed_point x l.1,
  )

  -- the inverse law is kept
  pub exchanged_turn : Turns (Leads c) → Turns (Leads (exchanged c k p))
  exchanged_turn turn v y x l =
      subst₂ (λ a b. Leads (exchanged c k p) a (inv y) b) (transposed_twice k p x) (transposed_twice k p v)
      (exchanged_leads (transposed k p x) (inv y) (transposed k p v)
      (turn (transposed k p v) y (transposed k p x) (exchanged_back v y x l)))

  -- words read after renaming
  pub exchanged_reads : (v : ℕ) (w : List ℕ) (x : ℕ) → Reads (Leads c) v w x
      → Reads (Leads (exchanged c k p)) (transposed k p v) w (transposed k p x)
  exchanged_reads v [] x r = ap (transposed k p) r
  exchanged_reads v (y ∷ w) x r =
      (transposed k p r.0, exchanged_leads v y r.0 r.1, exchanged_reads r.0 w x r.2)

  -- and words that read after renaming read before
  pub exchanged_reads_back : (v : ℕ) (w : List ℕ) (x : ℕ) → Reads (Leads (exchanged c k p)) v w x
      → Reads (Leads c) (transposed k p v) w (transposed k p x)
  exchanged_reads_back v [] x r = ap (transposed k p) r
  exchanged_reads_back v (y ∷ w) x r =
      (transposed k p r.0, exchanged_back v y r.0 r.1, exchanged_reads_back r.0 w x r.2)

  -- a cell after renaming was a cell before
  exchanged_cell : (v y : ℕ) → (exchanged c k p v y ≡ absent → ⊥) → c (transposed k p v) y ≡ absent → ⊥
  exchanged_cell v y n =
      leads_here c (transposed k p v) y (transposed k p (exchanged c k p v y))
      (exchanged_back v y (exchanged c k p v y) (refl, n))

  -- a cell before is a cell after renaming
  cell_exchanged : (v y : ℕ) → (c (transposed k p v) y ≡ absent → ⊥) → exchanged c k p v y ≡ absent → ⊥
  unfolding exchanged
  cell_exchanged v y n e = transposed_point (c (transposed k p v) y) n e

  -- only the same letters have cells
  pub exchanged_lettered : (ys : List ℕ) → Lettered c ys → Lettered (exchanged c k p) ys
  exchanged_lettered ys f v y n = f (transposed k p v) y (exchanged_cell v y n)

  module _ (zk : k ≡ 0 → ⊥) (zp : p ≡ 0 → ⊥) where
    -- the base keeps its name
    pub transposed_base : transposed k p 0 ≡ 0
    transposed_base = transposed_other k p 0 (λ e. zk (sym e)) (λ e. zp (sym e))

    -- loops at the base are loops at the base
    exchanged_loops : (w : List ℕ) → Reads (Leads c) 0 w 0 ↔ Reads (Leads (exchanged c k p)) 0 w 0
    exchanged_loops w = (
      λ r. subst₂ (λ a b. Reads (Leads (exchanged c k p)) a w b) transposed_base transposed_base (exchanged_reads 0 w 0 r),
      λ r. subst₂ (λ a b. Reads (Leads c) a w b) transposed_base transposed_base (exchanged_reads_back 0 w 0 r),
    )

    -- acceptance is unchanged
    pub exchanged_accepts : (q : List ℕ) → Accepts c q ↔ Accepts (exchanged c k p) q
    exchanged_accepts q = exchanged_loops (reduced q)

    -- each row with a cell is still reached from the base
    pub exchanged_reached : Reached c → Reached (exchanged c k p)
    exchanged_reached f v y n =
        let r = f (transposed k p v) y (exchanged_cell v y n) in (
          r.0,
          subst₂ (λ a b. Reads (Leads (exchanged c k p)) a r.0 b) transposed_base (transposed_twice k p v)
              (exchanged_reads 0 r.0 (transposed k p v) r.1),
        )

    -- and has still two letters
    pub exchanged_two : Two c → Two (exchanged c k p)
    exchanged_two f v y z n =
        let m : transposed k p v ≡ 0 → ⊥ = λ e. z (sym (transposed_twice k p v) ∙ ap (transposed k p) e ∙ transposed_base) in
        let r = f (transposed k p v) y m (exchanged_cell v y n) in
        (r.0, r.1, r.2, cell_exchanged v r.0 r.3, cell_exchanged v r.1 r.4)

-- what numbering asks of the cells is kept, where the names are of the room and neither is the base's
pub exchanged_ready : {ys : List ℕ} {R : ℕ} {c : Cells} → Ready ys R c → (k p : ℕ) → 1 ≤ k → k < R → 1 ≤ p → p < R
    → Ready ys R (exchanged c k p)
exchanged_ready {ys} {R} {c} r k p zk hk zp hp =
    record {
      turn = exchanged_turn c k p nk np r.turn;
      reached = exchanged_reached c k p nk np (λ e. omega arith) (λ e. omega arith) r.reached;
      two = exchanged_two c k p nk np (λ e. omega arith) (λ e. omega arith) r.two;
      lettered = exchanged_lettered c k p nk np ys r.lettered;
      rows = λ v y n.
          by_cases (ℕ_discrete v k) (λ e. omega arith)
          (λ e. by_cases (ℕ_discrete v p) (λ d. omega arith)
          (λ d. subst (λ a. a < R) (transposed_other k p v e d)
          (r.rows (transposed k p v) y (exchanged_cell c k p nk np v y n))));
      fits = r.fits;
    }
  where
    nk : k ≡ absent → ⊥
    nk e = omega (arith, r.fits)

    np : p ≡ absent → ⊥
    np e = omega (arith, r.fits)
