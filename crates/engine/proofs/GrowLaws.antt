-- How operations keep what stands between points (`specs/Points`).
--   Grows s t       <-> names of one point stay names of one point, and what is over stays over
--   Apart s p q lo hi <-> lo and hi are the roots of p and q, the smaller first
--   united_cases, joined_cases : what is shown of a united or joined state, by its cases
--   grows_reads      : words read between roots still read
-- So whatever is said by `Over` is kept by each operation. Assumes nothing.
use mathlib.Core.Path.{◌≡◌, refl, sym, ◌∙◌, ap, subst}
use mathlib.Core.Logic.{◌⊎◌, inl, inr, ⊎_elim, by_cases}
use mathlib.Core.Bool.{cond}
use mathlib.Core.List.{List, [], ◌∷◌}
use Prim.Native.Nat.{ℕ, ◌<◌, min, max}
use native.Mathlib.Decide.{ℕ_discrete, dec_lt}
use native.Mathlib.Omega.{arith}
use lib.Dec.{eqb}
use borrow.Author.Tests.{eq-eqb, ne_eqb}
use Rattle.theory.specs.Words.{inv}
use Rattle.theory.specs.Tables.{absent, Leads, Reads}
use Rattle.theory.proofs.GraphLaws.{Turns}
use Rattle.engine.specs.Cells.{linked}
use Rattle.engine.specs.Roots.{absorbed}
use Rattle.engine.specs.Engine.{State, with_cells, pushed, united, joined}
use Rattle.engine.specs.Points.{Between, Over}
use Rattle.engine.proofs.CellLaws.{inv_twice, linked_there, linked_kept, linked_other}
use Rattle.engine.proofs.RootLaws.{absorbed_hit, absorbed_miss}

pub record Grows (s t : State) : Type 0 where
  pub same : (v u : ℕ) → s.root v ≡ s.root u → t.root v ≡ t.root u
  pub over : (v y u : ℕ) → Over s v y u → Over t v y u

-- a cell is over
pub cell_over : (s : State) (v y x : ℕ) → Leads s.cells v y x → Over s v y x
cell_over s v y x l = (v, x, l, refl, refl)

-- other names of the same points
pub over_names : (s : State) (v y u v' u' : ℕ) → s.root v ≡ s.root v' → s.root u ≡ s.root u' → Over s v y u → Over s v' y u'
over_names s v y u v' u' p q o = (o.0, o.1, o.2, o.3 ∙ p, o.4 ∙ q)

-- the inverse law between points
pub over_turn : (s : State) → Turns (Leads s.cells) → Turns (Over s)
over_turn s turn v y x o = (o.1, o.0, turn o.0 y o.1 o.2, o.4, o.3)

-- it is enough that cells stay over
pub grows_by : {s t : State} → ((v u : ℕ) → s.root v ≡ s.root u → t.root v ≡ t.root u)
    → ((v y x : ℕ) → Leads s.cells v y x → Over t v y x) → Grows s t
grows_by {s} {t} f g =
    record {
      same = f;
      over = λ v y u o.
          over_names t o.0 y o.1 v u (f o.0 v o.3) (f o.1 u o.4) (g o.0 y o.1 o.2);
    }

-- to grow is reflexive
pub grows_refl : (s : State) → Grows s s
grows_refl s = record { same = λ v u e. e; over = λ v y u o. o }

-- and transitive
pub grows_trans : {r s t : State} → Grows r s → Grows s t → Grows r t
grows_trans f g =
    record { same = λ v u e. g.same v u (f.same v u e); over = λ v y u o. g.over v y u (f.over v y u o) }

-- words read between roots still read
pub grows_reads : {s t : State} → Grows s t → (v : ℕ) (w : List ℕ) (x : ℕ) → Reads (Between s) (s.root v) w (s.root x)
    → Reads (Between t) (t.root v) w (t.root x)
grows_reads g v [] x r = g.same v x r
grows_reads {s} {t} g v (y ∷ w) x r =
    let b = r.1 in (
      t.root b.1,
      g.over v y b.1 (b.0, b.1, b.2, b.3, refl),
      grows_reads g b.1 w x (subst (λ p. Reads (Between s) p w (s.root x)) (sym b.4) r.2),
    )

-- what cells read, reads between roots
pub cells_between : (s : State) (v : ℕ) (w : List ℕ) (x : ℕ) → Reads (Leads s.cells) v w x
    → Reads (Between s) (s.root v) w (s.root x)
cells_between s v [] x r = ap s.root r
cells_between s v (y ∷ w) x r = (s.root r.0, cell_over s v y r.0 r.1, cells_between s r.0 w x r.2)

-- ── Uniting ──

-- lo and hi are the roots of p and q, the smaller first
pub record Apart (s : State) (p q lo hi : ℕ) : Type 0 where
  pub lower : lo < hi
  pub which : ((s.root p ≡ lo) × (s.root q ≡ hi)) ⊎ ((s.root p ≡ hi) × (s.root q ≡ lo))

-- a united state is the state itself, or has the greater root sent to the smaller
pub united_cases : (P : State → Type 0) (s : State) (p q : ℕ) → (s.root p ≡ s.root q → P s)
    → ((lo hi : ℕ) → Apart s p q lo hi → P (pushed s lo hi)) → P (united s p q)
unfolding united
united_cases P s p q f g =
    by_cases (ℕ_discrete (s.root p) (s.root q)) (λ e. rw (eq-eqb (s.root p) (s.root q) e) (f e))
    (λ n. rw (ne_eqb (s.root p) (s.root q) n) (g (min (s.root p) (s.root q)) (max (s.root p) (s.root q)) (apart n)))
  where
    apart : (s.root p ≡ s.root q → ⊥) → Apart s p q (min (s.root p) (s.root q)) (max (s.root p) (s.root q))
    apart n =
        by_cases (dec_lt (s.root p) (s.root q))
        (λ h. record { lower = omega arith; which = inl (omega arith, omega arith) })
        (λ h. record { lower = omega arith; which = inr (omega arith, omega arith) })

-- cells are as they were
pub united_cells_lem : (s : State) (p q : ℕ) → (united s p q).cells ≡ s.cells
united_cells_lem s p q = united_cases (λ t. t.cells ≡ s.cells) s p q (λ e. refl) (λ lo hi a. refl)

-- the two points are one
pub united_one : (s : State) (p q : ℕ) → (united s p q).root p ≡ (united s p q).root q
united_one s p q =
    united_cases (λ t. t.root p ≡ t.root q) s p q (λ e. e)
    (λ lo hi a. ⊎_elim (λ h. low lo hi p a.lower h.0 ∙ sym (absorbed_hit s.root lo hi q h.1))
    (λ h. absorbed_hit s.root lo hi p h.0 ∙ sym (low lo hi q a.lower h.1)) a.which)
  where
    low : (lo hi v : ℕ) → lo < hi → s.root v ≡ lo → absorbed s.root lo hi v ≡ lo
    low lo hi v h e = absorbed_miss s.root lo hi v (λ q. omega arith) ∙ e

-- one root sent to another grows
pub pushed_grows : (s : State) (lo hi : ℕ) → Grows s (pushed s lo hi)
unfolding absorbed
pushed_grows s lo hi =
    grows_by (λ v u e. ap (λ r. cond (eqb r hi) lo r) e) (λ v y x l. cell_over (pushed s lo hi) v y x l)

-- uniting keeps what stands between points
pub united_grows : (s : State) (p q : ℕ) → Grows s (united s p q)
united_grows s p q = united_cases (Grows s) s p q (λ e. grows_refl s) (λ lo hi a. pushed_grows s lo hi)

-- ── Joining ──

-- both cells free: the edge is new
pub joined_free : (s : State) (a y b : ℕ) → s.cells a y ≡ absent → s.cells b (inv y) ≡ absent
    → joined s a y b ≡ with_cells s (linked s.cells a y b)
unfolding joined
joined_free s a y b e d = rw (eq-eqb (s.cells a y) absent e, eq-eqb (s.cells b (inv y)) absent d)

-- the cell at a taken: its point and b are made one
pub joined_taken : (s : State) (a y b x : ℕ) → Leads s.cells a y x → joined s a y b ≡ united s x b
unfolding joined
joined_taken s a y b x l = rw (l.0, ne_eqb x absent l.1)

-- that at b alone taken: its point and a are made one
pub joined_back : (s : State) (a y b x : ℕ) → s.cells a y ≡ absent → Leads s.cells b (inv y) x → joined s a y b ≡ united s x a
unfolding joined
joined_back s a y b x e l = rw (eq-eqb (s.cells a y) absent e, l.0, ne_eqb x absent l.1)

-- a joined state has the new edge, or has it dropped and two points united
pub joined_cases : (P : State → Type 0) (s : State) (a y b : ℕ)
    → (s.cells a y ≡ absent → s.cells b (inv y) ≡ absent → P (with_cells s (linked s.cells a y b)))
    → ((x : ℕ) → Leads s.cells a y x → P (united s x b)) → ((x : ℕ) → Leads s.cells b (inv y) x → P (united s x a))
    → P (joined s a y b)
joined_cases P s a y b f g h =
    by_cases (ℕ_discrete (s.cells a y) absent)
    (λ e. by_cases (ℕ_discrete (s.cells b (inv y)) absent)
    (λ d. subst P (sym (joined_free s a y b e d)) (f e d))
    (λ d. let l : Leads s.cells b (inv y) (s.cells b (inv y)) = (refl, d) in
    subst P (sym (joined_back s a y b (s.cells b (inv y)) e l)) (h (s.cells b (inv y)) l)))
    (λ n. let l : Leads s.cells a y (s.cells a y) = (refl, n) in
    subst P (sym (joined_taken s a y b (s.cells a y) l)) (g (s.cells a y) l))

-- joining keeps what stands between points
pub joined_grows : (s : State) (a y b : ℕ) → Grows s (joined s a y b)
joined_grows s a y b =
    joined_cases (Grows s) s a y b
    (λ e d. grows_by (λ v u q. q)
    (λ v z x l. cell_over (with_cells s (linked s.cells a y b)) v z x (linked_kept s.cells a y b v z x e d l)))
    (λ x l. united_grows s x b) (λ x l. united_grows s x a)

-- the new edge stands over
pub joined_over : (s : State) (a y b : ℕ) → Turns (Leads s.cells) → (b ≡ absent → ⊥) → Over (joined s a y b) a y b
joined_over s a y b turn n =
    joined_cases (λ t. Over t a y b) s a y b
    (λ e d. cell_over (with_cells s (linked s.cells a y b)) a y b (linked_there s.cells a y b, n))
    (λ x l. over_names (united s x b) a y x a b refl (united_one s x b)
    ((united_grows s x b).over a y x (cell_over s a y x l)))
    (λ x l. over_names (united s x a) x y b a b (united_one s x a) refl
    ((united_grows s x a).over x y b (over_back x l)))
  where
    over_back : (x : ℕ) → Leads s.cells b (inv y) x → Over s x y b
    over_back x l = cell_over s x y b (subst (λ z. Leads s.cells x z b) (inv_twice y) (turn b (inv y) x l))

-- rows other than those of the two points are as they were
pub joined_rows : (s : State) (a y b v z : ℕ) → (v ≡ a → ⊥) → (v ≡ b → ⊥) → (joined s a y b).cells v z ≡ s.cells v z
joined_rows s a y b v z f g =
    joined_cases (λ t. t.cells v z ≡ s.cells v z) s a y b
    (λ e d. linked_other s.cells a y b v z (λ q r. f q) (λ q r. g q))
    (λ x l. ap (λ c. c v z) (united_cells_lem s x b)) (λ x l. ap (λ c. c v z) (united_cells_lem s x a))
