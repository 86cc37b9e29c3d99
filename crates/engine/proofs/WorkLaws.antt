-- Stores into lent cells are the engine's operations (`specs/Work`, `specs/Roots`, `specs/Engine`).
--   cell_set      : a store into the table is a `put`
--   forward_set   : a store into the forward cells is a redirection; forward_grown : a new point's store changes nothing
--   pending_push  : a store behind the pending points puts one in front
--   find_turn     : one turn of finding a root, by halving
--   united_forward: uniting, by one store
-- Assumes nothing.
use mathlib.Core.Path.{◌≡◌, refl, sym, ◌∙◌, ap, fun_ext}
use mathlib.Core.Logic.{◌⊎◌, inl, inr, ⊎_elim, by_cases}
use mathlib.Core.List.{List, ◌∷◌}
use Prim.Native.Nat.{ℕ, zero, suc, ◌+◌, ◌*◌, ◌/◌, ◌%◌, ◌≤◌, ◌<◌, min, max}
use native.Mathlib.Decide.{ℕ_discrete, dec_lt}
use native.Mathlib.Omega.{arith}
use lib.Arith.{digits_lt, digits_div, digits_mod}
use lib.ListN.{length, get_or, set}
use lib.Seq.{get_or-set_same, get_or-set_other}
use borrow.Author.Tests.{eq-eqb, ne_eqb, lt-ltb, le-ltb}
use Rattle.theory.specs.Tables.{absent, Cells, cell}
use Rattle.theory.proofs.TableLaws.{cell_in, cell_bounded, length_usual, get_or_usual}
use Rattle.engine.specs.Cells.{put}
use Rattle.engine.specs.Roots.{Falls, root_of, redirected, halved, absorbed}
use Rattle.engine.specs.Engine.{State, state_of, united}
use Rattle.engine.specs.Work.{forward_of, pending_of}
use Rattle.engine.proofs.CellLaws.{put_same, put_other}
use Rattle.engine.proofs.RootLaws.{
  redirected_same,
  redirected_other,
  root_end,
  root_step,
  halved_root,
  absorbed_root,
}

-- ── The table ──

-- a store into the table is a `put`
pub cell_set : (n R : ℕ) (t : List ℕ) (v y x : ℕ) → v < R → y < 2 * n → R * (2 * n) ≤ length t → (u z : ℕ)
    → cell n R (set t (v * (2 * n) + y) x) u z ≡ put (cell n R t) v y x u z
cell_set n R t v y x hv hy h u z =
    by_cases (dec_lt u R)
    (λ a. by_cases (dec_lt z (2 * n)) (λ b. inside a b) (λ b. outside (λ p q. b q)))
    (λ a. outside (λ p q. a p))
  where
    inside : u < R → z < 2 * n → cell n R (set t (v * (2 * n) + y) x) u z ≡ put (cell n R t) v y x u z
    inside a b =
        cell_in n R (set t (v * (2 * n) + y) x) u z a b
        ∙ by_cases (ℕ_discrete (u * (2 * n) + z) (v * (2 * n) + y))
        (λ e. let p : u ≡ v = sym (digits_div u b) ∙ ap (λ k. k / (2 * n)) e ∙ digits_div v hy in
        let q : z ≡ y = sym (digits_mod u b) ∙ ap (λ k. k % (2 * n)) e ∙ digits_mod v hy in
        ap (λ j. get_or (set t (v * (2 * n) + y) x) j absent) e
        ∙ get_or-set_same t (v * (2 * n) + y) x absent (omega (arith, digits_lt hv hy))
        ∙ sym (ap (λ k. put (cell n R t) v y x k z) p ∙ ap (put (cell n R t) v y x v) q ∙ put_same (cell n R t) v y x))
        (λ d. get_or-set_other t (v * (2 * n) + y) (u * (2 * n) + z) x absent d
        ∙ sym (put_other (cell n R t) v y x u z (λ p q. d (ap (λ k. k * (2 * n) + z) p ∙ ap (λ k. v * (2 * n) + k) q))
        ∙ cell_in n R t u z a b))

    none : (s : List ℕ) → (u < R → z < 2 * n → ⊥) → cell n R s u z ≡ absent
    none s f =
        by_cases (ℕ_discrete (cell n R s u z) absent) (λ e. e)
        (λ d. let b = cell_bounded n R s u z d in
        absurd (f b.0 (omega (arith, length_usual n, get_or_usual n b.1.0 (omega (arith, length_usual n)), b.1.2))))

    outside : (u < R → z < 2 * n → ⊥) → cell n R (set t (v * (2 * n) + y) x) u z ≡ put (cell n R t) v y x u z
    outside f =
        none (set t (v * (2 * n) + y) x) f
        ∙ sym (put_other (cell n R t) v y x u z (λ p q. f (omega arith) (omega arith)) ∙ none t f)

-- ── Forward cells and pending cells ──

-- a name made is forwarded to what its cell holds
pub forward_in : (f : List ℕ) (n v : ℕ) → v < n → forward_of f n v ≡ get_or f v 0
unfolding forward_of
forward_in f n v h = rw (lt-ltb v n h)

-- a name not made is its own
pub forward_own : (f : List ℕ) (n v : ℕ) → n ≤ v → forward_of f n v ≡ v
unfolding forward_of
forward_own f n v h = rw (le-ltb v n h)

-- a store at a name made is a redirection
pub forward_set : (f : List ℕ) (n v x : ℕ) → v < n → n ≤ length f → (u : ℕ)
    → forward_of (set f v x) n u ≡ redirected (forward_of f n) v x u
forward_set f n v x h k u =
    by_cases (ℕ_discrete u v)
    (λ e. ap (forward_of (set f v x) n) e ∙ forward_in (set f v x) n v h ∙ get_or-set_same f v x 0 (omega arith)
    ∙ sym (ap (redirected (forward_of f n) v x) e ∙ redirected_same (forward_of f n) v x))
    (λ d. by_cases (dec_lt u n)
    (λ g. forward_in (set f v x) n u g ∙ get_or-set_other f v u x 0 d
    ∙ sym (redirected_other (forward_of f n) v x u d ∙ forward_in f n u g))
    (λ g. forward_own (set f v x) n u (omega arith)
    ∙ sym (redirected_other (forward_of f n) v x u d ∙ forward_own f n u (omega arith))))

-- a new point that is sent to itself changes nothing
pub forward_grown : (f : List ℕ) (n : ℕ) → n < length f → (u : ℕ) → forward_of (set f n n) (suc n) u ≡ forward_of f n u
forward_grown f n h u =
    by_cases (ℕ_discrete u n)
    (λ e. ap (forward_of (set f n n) (suc n)) e ∙ forward_in (set f n n) (suc n) n (omega arith) ∙ get_or-set_same f n n 0 h
    ∙ sym (ap (forward_of f n) e ∙ forward_own f n n (omega arith)))
    (λ d. by_cases (dec_lt u n)
    (λ g. forward_in (set f n n) (suc n) u (omega arith) ∙ get_or-set_other f n u n 0 d ∙ sym (forward_in f n u g))
    (λ g. forward_own (set f n n) (suc n) u (omega arith) ∙ sym (forward_own f n u (omega arith))))

-- a store at or behind the end of the pending cells changes none of them
pending_kept : (p : List ℕ) (i x k : ℕ) → k ≤ i → pending_of (set p i x) k ≡ pending_of p k
unfolding pending_of
pending_kept p i x zero h = refl
pending_kept p i x (suc k) h = both (get_or-set_other p i k x 0 (λ e. omega arith)) (pending_kept p i x k (omega arith))
  where
    both : {a b : ℕ} {l m : List ℕ} → a ≡ b → l ≡ m → a ∷ l ≡ b ∷ m
    both e q = rw (e, q)

-- a store behind the pending points puts one in front
pub pending_push : (p : List ℕ) (k x : ℕ) → k < length p → pending_of (set p k x) (suc k) ≡ x ∷ pending_of p k
unfolding pending_of
pending_push p k x h = both (get_or-set_same p k x 0 h) (pending_kept p k x k (omega arith))
  where
    both : {a b : ℕ} {l m : List ℕ} → a ≡ b → l ≡ m → a ∷ l ≡ b ∷ m
    both e q = rw (e, q)

-- the number of entries is that of the cells
pub pending_length : (p : List ℕ) (k : ℕ) → length (pending_of p k) ≡ k
unfolding pending_of
pending_length p zero = refl
pending_length p (suc k) = ap suc (pending_length p k)

-- ── Roots by forward cells ──

-- one turn of finding a root: two steps at once, to a smaller name of the same root
pub find_turn : (f : ℕ → ℕ) → Falls f → (v : ℕ) → (f v ≡ v → ⊥)
    → (f (f v) < v) × (root_of (halved f v) (f (f v)) ≡ root_of f v)
find_turn f falls v n = (
  omega (arith, falls v, falls (f v)),
  halved_root f falls v (f (f v)) ∙ root_step f falls (f v) ∙ root_step f falls v,
)

-- states with equal roots are equal
pub roots_path : (c : Cells) (f g : ℕ → ℕ) (ps : List ℕ) (n : ℕ) → ((v : ℕ) → root_of f v ≡ root_of g v)
    → state_of c f ps n ≡ state_of c g ps n
roots_path c f g ps n h = λ i. record { cells = c; root = fun_ext h i; pending = ps; made = n }

-- halving changes no state
pub halved_state : (c : Cells) (f : ℕ → ℕ) (ps : List ℕ) (n : ℕ) → Falls f → (v : ℕ)
    → state_of c (halved f v) ps n ≡ state_of c f ps n
halved_state c f ps n falls v = roots_path c (halved f v) f ps n (halved_root f falls v)

-- names of one root: nothing happens
pub united_same : (s : State) (p q : ℕ) → s.root p ≡ s.root q → united s p q ≡ s
unfolding united
united_same s p q e = rw (eq-eqb (s.root p) (s.root q) e)

-- two roots: the greater is sent to the smaller, and goes on the pending list
pub united_forward : (c : Cells) (f : ℕ → ℕ) (ps : List ℕ) (n : ℕ) → Falls f → (p q lo hi : ℕ)
    → lo ≡ min (root_of f p) (root_of f q) → hi ≡ max (root_of f p) (root_of f q) → lo < hi
    → united (state_of c f ps n) p q ≡ state_of c (redirected f hi lo) (hi ∷ ps) n
unfolding united
united_forward c f ps n falls p q lo hi el eh h =
    rw (ne_eqb (root_of f p) (root_of f q) (λ e. omega arith), ← el, ← eh)
    (λ i. record { cells = c; root = fun_ext root i; pending = hi ∷ ps; made = n })
  where
    end : (r : ℕ) → (r ≡ root_of f p) ⊎ (r ≡ root_of f q) → f r ≡ r
    end r s =
        ⊎_elim (λ e. ap f e ∙ root_end f falls p ∙ sym e) (λ e. ap f e ∙ root_end f falls q ∙ sym e) s

    low : (lo ≡ root_of f p) ⊎ (lo ≡ root_of f q)
    low = by_cases (dec_lt (root_of f p) (root_of f q)) (λ g. inl (omega arith)) (λ g. inr (omega arith))

    high : (hi ≡ root_of f p) ⊎ (hi ≡ root_of f q)
    high = by_cases (dec_lt (root_of f p) (root_of f q)) (λ g. inr (omega arith)) (λ g. inl (omega arith))

    root : (u : ℕ) → absorbed (root_of f) lo hi u ≡ root_of (redirected f hi lo) u
    root u = sym (absorbed_root f falls lo hi (end lo low) (end hi high) h u)
