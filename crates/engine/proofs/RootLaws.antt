-- Laws of roots (`specs/Roots`).
--   root_unique   : what is equal along forward and fixed at its ends is the root function
--   halved_root   : halving changes no root
--   absorbed_root : one root sent to a smaller one
--   count_absorbed: that takes one root away
-- Assumes nothing.
use mathlib.Core.Path.{◌≡◌, refl, sym, ◌∙◌, ap}
use mathlib.Core.Logic.{by_cases}
use mathlib.Core.Bool.{cond}
use Prim.Native.Nat.{ℕ, zero, suc, ◌≤◌, ◌<◌}
use native.Mathlib.Decide.{ℕ_discrete}
use native.Mathlib.Omega.{arith}
use lib.Dec.{eqb}
use borrow.Author.Tests.{eq-eqb, ne_eqb}
use Rattle.engine.specs.Roots.{Falls, followed, root_of, redirected, halved, absorbed, root_count}

-- forward after a store: there
pub redirected_same : (f : ℕ → ℕ) (v x : ℕ) → redirected f v x v ≡ x
unfolding redirected
redirected_same f v x = rw (eq-eqb v v refl)

-- and elsewhere
pub redirected_other : (f : ℕ → ℕ) (v x u : ℕ) → (u ≡ v → ⊥) → redirected f v x u ≡ f u
unfolding redirected
redirected_other f v x u n = rw (ne_eqb u v n)

-- a lower target keeps forward falling
pub redirected_falls : (f : ℕ → ℕ) (v x : ℕ) → Falls f → x ≤ v → Falls (redirected f v x)
redirected_falls f v x falls h u =
    by_cases (ℕ_discrete u v)
    (λ e. omega (arith, ap (redirected f v x) e, redirected_same f v x))
    (λ e. omega (arith, redirected_other f v x u e, falls u))

-- roots after hi is sent to lo: names of hi have the root lo
pub absorbed_hit : (root : ℕ → ℕ) (lo hi v : ℕ) → root v ≡ hi → absorbed root lo hi v ≡ lo
unfolding absorbed
absorbed_hit root lo hi v e = rw (eq-eqb (root v) hi e)

-- and every other name has the root that it had
pub absorbed_miss : (root : ℕ → ℕ) (lo hi v : ℕ) → (root v ≡ hi → ⊥) → absorbed root lo hi v ≡ root v
unfolding absorbed
absorbed_miss root lo hi v n = rw (ne_eqb (root v) hi n)

module _ (f : ℕ → ℕ) where
  followed_own : (d v : ℕ) → f v ≡ v → followed f d v ≡ v
  unfolding followed
  followed_own zero v e = refl
  followed_own (suc d) v e = ap (followed f d) e ∙ followed_own d v e

  followed_last : (d v : ℕ) → followed f d (f v) ≡ f (followed f d v)
  unfolding followed
  followed_last zero v = refl
  followed_last (suc d) v = followed_last d (f v)

  module _ (falls : Falls f) where
    followed_end : (d v : ℕ) → v ≤ d → f (followed f d v) ≡ followed f d v
    unfolding followed
    followed_end zero v h = omega (arith, falls v)
    followed_end (suc d) v h =
        by_cases (ℕ_discrete (f v) v)
        (λ e. ap f (ap (followed f d) e ∙ followed_own d v e) ∙ e ∙ sym (ap (followed f d) e ∙ followed_own d v e))
        (λ n. followed_end d (f v) (omega (arith, falls v)))

    followed_le : (d v : ℕ) → followed f d v ≤ v
    unfolding followed
    followed_le zero v = omega arith
    followed_le (suc d) v = omega (arith, followed_le d (f v), falls v)

    -- a root is forwarded to itself
    pub root_end : (v : ℕ) → f (root_of f v) ≡ root_of f v
    unfolding root_of
    root_end v = followed_end v v (omega arith)

    -- a name that is forwarded to itself is a root
    pub root_own : (v : ℕ) → f v ≡ v → root_of f v ≡ v
    unfolding root_of
    root_own v e = followed_own v v e

    -- no root is greater than its names
    pub root_le : (v : ℕ) → root_of f v ≤ v
    unfolding root_of
    root_le v = followed_le v v

    -- a root is its own root
    pub root_idem : (v : ℕ) → root_of f (root_of f v) ≡ root_of f v
    root_idem v = root_own (root_of f v) (root_end v)

    -- enough steps lead to the root
    followed_enough : (d v : ℕ) → v ≤ d → followed f d v ≡ root_of f v
    unfolding root_of followed
    followed_enough zero v h = let e : 0 ≡ v = omega arith in ap (λ d. followed f d v) e
    followed_enough (suc d) v h =
        by_cases (ℕ_discrete v (suc d)) (λ e. ap (λ k. followed f k v) (sym e))
        (λ n. followed_last d v ∙ followed_end d v (omega arith) ∙ followed_enough d v (omega arith))

    -- a name and the one that it is forwarded to have one root
    pub root_step : (v : ℕ) → root_of f (f v) ≡ root_of f v
    root_step v =
        sym (followed_enough v (f v) (falls v))
        ∙ followed_last v v
        ∙ followed_end v v (omega arith)
        ∙ followed_enough v v (omega arith)

    -- what is equal along forward and fixed at its ends is the root function
    pub root_unique : (root : ℕ → ℕ) → ((v : ℕ) → root (f v) ≡ root v) → ((v : ℕ) → f v ≡ v → root v ≡ v)
        → (v : ℕ) → root_of f v ≡ root v
    unfolding root_of followed
    root_unique root step own v = sym (own (followed f v v) (followed_end v v (omega arith))) ∙ along v v
      where
        along : (d u : ℕ) → root (followed f d u) ≡ root u
        along zero u = refl
        along (suc d) u = along d (f u) ∙ step u

module _ (f : ℕ → ℕ) (falls : Falls f) where
  -- halving keeps forward falling
  pub halved_falls : (v : ℕ) → Falls (halved f v)
  halved_falls v = redirected_falls f v (f (f v)) falls (omega (arith, falls v, falls (f v)))

  -- halving changes no root
  pub halved_root : (v u : ℕ) → root_of (halved f v) u ≡ root_of f u
  halved_root v u = root_unique (halved f v) (halved_falls v) (root_of f) step own u
    where
      step : (u : ℕ) → root_of f (halved f v u) ≡ root_of f u
      step u =
          by_cases (ℕ_discrete u v)
          (λ e. ap (λ x. root_of f (halved f v x)) e ∙ ap (root_of f) (redirected_same f v (f (f v)))
          ∙ root_step f falls (f v) ∙ root_step f falls v ∙ sym (ap (root_of f) e))
          (λ n. ap (root_of f) (redirected_other f v (f (f v)) u n) ∙ root_step f falls u)

      own : (u : ℕ) → halved f v u ≡ u → root_of f u ≡ u
      own u q =
          by_cases (ℕ_discrete u v)
          (λ e. let h : f (f v) ≡ v = sym (redirected_same f v (f (f v))) ∙ ap (halved f v) (sym e) ∙ q ∙ e in
          let g : f v ≡ v = omega (arith, falls v, falls (f v)) in
          root_own f falls u (ap f e ∙ g ∙ sym e))
          (λ n. root_own f falls u (sym (redirected_other f v (f (f v)) u n) ∙ q))

  -- one root sent to a smaller one
  pub absorbed_root : (lo hi : ℕ) → f lo ≡ lo → f hi ≡ hi → lo < hi
      → (u : ℕ) → root_of (redirected f hi lo) u ≡ absorbed (root_of f) lo hi u
  unfolding absorbed
  absorbed_root lo hi a b h =
      root_unique (redirected f hi lo) (redirected_falls f hi lo falls (omega arith))
      (absorbed (root_of f) lo hi) step own
    where
      low : absorbed (root_of f) lo hi lo ≡ lo
      low = absorbed_miss (root_of f) lo hi lo (λ e. omega (arith, root_own f falls lo a)) ∙ root_own f falls lo a

      step : (u : ℕ) → absorbed (root_of f) lo hi (redirected f hi lo u) ≡ absorbed (root_of f) lo hi u
      step u =
          by_cases (ℕ_discrete u hi)
          (λ e. ap (λ x. absorbed (root_of f) lo hi (redirected f hi lo x)) e
          ∙ ap (absorbed (root_of f) lo hi) (redirected_same f hi lo) ∙ low
          ∙ sym (ap (absorbed (root_of f) lo hi) e ∙ absorbed_hit (root_of f) lo hi hi (root_own f falls hi b)))
          (λ n. ap (absorbed (root_of f) lo hi) (redirected_other f hi lo u n)
          ∙ ap (λ x. cond (eqb x hi) lo x) (root_step f falls u))

      own : (u : ℕ) → redirected f hi lo u ≡ u → absorbed (root_of f) lo hi u ≡ u
      own u q =
          by_cases (ℕ_discrete u hi)
          (λ e. absurd (omega (arith, sym (redirected_same f hi lo) ∙ ap (redirected f hi lo) (sym e) ∙ q ∙ e)))
          (λ n. let g = root_own f falls u (sym (redirected_other f hi lo u n) ∙ q) in
          absorbed_miss (root_of f) lo hi u (λ e. n (sym g ∙ e)) ∙ g)

-- ── How many roots ──

-- a new name that is a root is one root more
pub count_root : (root : ℕ → ℕ) (n : ℕ) → root n ≡ n → root_count root (suc n) ≡ suc (root_count root n)
unfolding root_count
count_root root n e = rw (eq-eqb (root n) n e)

count_other : (root : ℕ → ℕ) (n : ℕ) → (root n ≡ n → ⊥) → root_count root (suc n) ≡ root_count root n
unfolding root_count
count_other root n e = rw (ne_eqb (root n) n e)

-- the base is a root
pub count_some : (root : ℕ → ℕ) (n : ℕ) → root 0 ≡ 0 → 0 < n → 0 < root_count root n
count_some root zero e h = absurd (omega arith)
count_some root (suc zero) e h = omega (arith, count_root root 0 e)
count_some root (suc (suc n)) e h =
    let r = count_some root (suc n) e (omega arith) in
    by_cases (ℕ_discrete (root (suc n)) (suc n)) (λ q. omega (arith, count_root root (suc n) q))
    (λ q. omega (arith, count_other root (suc n) q))

module _ (root : ℕ → ℕ) (lo hi : ℕ) (rl : root lo ≡ lo) (rh : root hi ≡ hi) (lower : lo < hi) where
  -- every other root stays a root, and no other name becomes one
  absorbed_other : (v : ℕ) → (v ≡ hi → ⊥) → root v ≡ v → absorbed root lo hi v ≡ v
  absorbed_other v n e = absorbed_miss root lo hi v (λ q. n (sym e ∙ q)) ∙ e

  -- what is a root then was a root, and is not hi
  pub absorbed_back : (v : ℕ) → absorbed root lo hi v ≡ v → (v ≡ hi → ⊥) × (root v ≡ v)
  absorbed_back v e =
      by_cases (ℕ_discrete (root v) hi)
      (λ q. let g : lo ≡ v = sym (absorbed_hit root lo hi v q) ∙ e in
      absurd (omega (arith, sym rl ∙ ap root g ∙ q)))
      (λ n. let g : root v ≡ v = sym (absorbed_miss root lo hi v n) ∙ e in (λ q. n (g ∙ q), g))

  count_below : (n : ℕ) → n ≤ hi → root_count (absorbed root lo hi) n ≡ root_count root n
  unfolding root_count
  count_below zero h = refl
  count_below (suc n) h =
      let r = count_below n (omega arith) in
      by_cases (ℕ_discrete (root n) n)
      (λ e. count_root (absorbed root lo hi) n (absorbed_other n (λ q. omega arith) e) ∙ ap suc r ∙ sym (count_root root n e))
      (λ e. count_other (absorbed root lo hi) n (λ q. e (absorbed_back n q).1) ∙ r ∙ sym (count_other root n e))

  -- one root less
  pub count_absorbed : (n : ℕ) → hi < n → suc (root_count (absorbed root lo hi) n) ≡ root_count root n
  count_absorbed zero h = absurd (omega arith)
  count_absorbed (suc n) h =
      by_cases (ℕ_discrete n hi)
      (λ e. ap suc (count_other (absorbed root lo hi) n (λ q. (absorbed_back n q).0 e) ∙ count_below n (omega arith))
      ∙ sym (count_root root n (ap root e ∙ rh ∙ sym e)))
      (λ d. let r = count_absorbed n (omega arith) in
      by_cases (ℕ_discrete (root n) n)
      (λ e. ap suc (count_root (absorbed root lo hi) n (absorbed_other n d e)) ∙ ap suc r ∙ sym (count_root root n e))
      (λ e. ap suc (count_other (absorbed root lo hi) n (λ q. e (absorbed_back n q).1)) ∙ r ∙ sym (count_other root n e)))
