-- Points united (`specs/Uniting`): the outcomes of `unite` on plain values, and what they are in the engine's model.
--   Ready          <-> what `unite` asks
--   united_stays, united_grows : the number of pending points stays, or grows by one
--   united_falls, united_length, united_behind : what is kept; behind the pending points the cells are as they were
--   united_state   : the state that the cells hold is the model's `united`; kept_state : `find` changes no state
-- Assumes nothing.
use mathlib.Core.Path.{◌≡◌, sym, ◌∙◌, ap, subst, fun_ext}
use mathlib.Core.Logic.{by_cases}
use mathlib.Core.List.{List, ◌∷◌}
use Prim.Native.Nat.{ℕ, suc, ◌+◌, ◌-◌, ◌≤◌, ◌<◌, min, max}
use native.Mathlib.Decide.{ℕ_discrete, dec_lt}
use native.Mathlib.Numerals.{add-one}
use native.Mathlib.Omega.{arith}
use lib.ListN.{length, drop, set, length-set, length-drop}
use lib.Seq.{drop-set-lt, drop-set-add, drop-drop, get_or-set_other}
use borrow.Author.Tests.{eq-eqb, ne_eqb}
use Rattle.theory.specs.Tables.{Cells}
use Rattle.engine.specs.Roots.{Falls, root_of, redirected}
use Rattle.engine.specs.Engine.{state_of, united}
use Rattle.engine.specs.Work.{forward_of, pending_of}
use Rattle.engine.proofs.RootLaws.{root_le, redirected_falls}
use Rattle.engine.proofs.WorkLaws.{forward_in, forward_own, forward_set, pending_push, roots_path, united_same, united_forward}
use Rattle.rooms.specs.Finding.{halved_from, Found}
use Rattle.rooms.specs.Uniting.{sent, both_halved, united_cells, united_count, United}
use Rattle.rooms.proofs.FindLaws.{Kept, kept_both, kept_path, kept_found, found_le}

pub record Ready (old : List ℕ) (n room count p q : ℕ) : Type 0 where
  pub falls : Falls (forward_of old n)
  pub left : p < n
  pub right : q < n
  pub behind : n ≤ room
  pub fits : room + count < length old

pub ready : {old : List ℕ} {n room count p q : ℕ} → Falls (forward_of old n)
    → (p < n) × (q < n) × (n ≤ room) × (room + count < length old) → Ready old n room count p q
ready f h = record { falls = f; left = h.0; right = h.1; behind = h.2; fits = h.3 }

-- ── The outcomes ──

count_same : (count a b : ℕ) → a ≡ b → united_count count a b ≡ count
unfolding united_count
count_same count a b e = rw (eq-eqb a b e)

count_more : (count a b : ℕ) → (a ≡ b → ⊥) → united_count count a b ≡ count + 1
unfolding united_count
count_more count a b e = rw (ne_eqb a b e)

cells_same : (cells : List ℕ) (at a b : ℕ) → a ≡ b → united_cells cells at a b ≡ cells
unfolding united_cells
cells_same cells at a b e = rw (eq-eqb a b e)

cells_more : (cells : List ℕ) (at a b : ℕ) → (a ≡ b → ⊥) → united_cells cells at a b ≡ sent cells (min a b) (max a b) at
unfolding united_cells
cells_more cells at a b e = rw (ne_eqb a b e)

module _ {old : List ℕ} {n room count p q a : ℕ} {mid : List ℕ} (h : Ready old n room count p q) (f : Found old n p a mid) where
  pub mid_kept : Kept n old mid
  mid_kept = kept_found h.left (omega (arith, h.behind, h.fits)) h.falls f

  pub mid_asks : Falls (forward_of mid n) × ((q < n) × (n ≤ length mid))
  mid_asks = (mid_kept.falls, (h.right, omega (arith, mid_kept.same, h.behind, h.fits)))

  pub left_inside : a < n
  left_inside = omega (arith, found_le h.left (omega (arith, h.behind, h.fits)) h.falls f, h.left)

  module _ {b : ℕ} {cells : List ℕ} (g : Found mid n q b cells) where
    pub both_kept : Kept n old cells
    both_kept = kept_both mid_kept (kept_found h.right mid_asks.1.1 mid_kept.falls g)

    pub right_inside : b < n
    right_inside = omega (arith, found_le h.right mid_asks.1.1 mid_kept.falls g, h.right)

    -- a name and the next pending cell lie within the cells
    pub send_fits : (x : ℕ) → x < n → (x < length cells) × (room + count < length cells)
    send_fits x l = (omega (arith, both_kept.same, h.behind, h.fits), omega (arith, both_kept.same, h.fits))

    both_halved_lem : cells ≡ both_halved old p q
    both_halved_lem = g.cells ∙ ap (λ l. halved_from l q) f.cells

    right_root : b ≡ root_of (forward_of old n) q
    right_root = g.root ∙ mid_kept.roots q

    pub outcome : (r : ℕ) (after : List ℕ) → r ≡ united_count count a b → after ≡ united_cells cells (room + count) a b
        → United old n room count p q r after
    outcome r after e k =
        record {
          pending = e ∙ ap (λ x. united_count count x b) f.root ∙ ap (united_count count (root_of (forward_of old n) p)) right_root;
          cells = k ∙ ap (λ l. united_cells l (room + count) a b) both_halved_lem
              ∙ ap (λ x. united_cells (both_halved old p q) (room + count) x b) f.root
              ∙ ap (united_cells (both_halved old p q) (room + count) (root_of (forward_of old n) p)) right_root;
        }

    pub outcome_same : a ≡ b → United old n room count p q count cells
    outcome_same e = outcome count cells (sym (count_same count a b e)) (sym (cells_same cells (room + count) a b e))

    pub outcome_less : (after : List ℕ) → a < b → after ≡ sent cells a b (room + count) → United old n room count p q (count + 1) after
    outcome_less after l k =
        outcome (count + 1) after (sym (count_more count a b (λ e. omega arith)))
        (k ∙ ordered (omega arith) (omega arith) ∙ sym (cells_more cells (room + count) a b (λ e. omega arith)))
      where
        ordered : a ≡ min a b → b ≡ max a b → sent cells a b (room + count) ≡ sent cells (min a b) (max a b) (room + count)
        ordered x y = ap (λ z. sent cells z b (room + count)) x ∙ ap (λ z. sent cells (min a b) z (room + count)) y

    pub outcome_greater : (after : List ℕ) → b < a → after ≡ sent cells b a (room + count) → United old n room count p q (count + 1) after
    outcome_greater after l k =
        outcome (count + 1) after (sym (count_more count a b (λ e. omega arith)))
        (k ∙ ordered (omega arith) (omega arith) ∙ sym (cells_more cells (room + count) a b (λ e. omega arith)))
      where
        ordered : b ≡ min a b → a ≡ max a b → sent cells b a (room + count) ≡ sent cells (min a b) (max a b) (room + count)
        ordered x y = ap (λ z. sent cells z a (room + count)) x ∙ ap (λ z. sent cells (min a b) z (room + count)) y

-- ── For callers ──

-- a store behind the forward cells changes no forward
forward_kept : (cells : List ℕ) (n i x : ℕ) → n ≤ i → (u : ℕ) → forward_of (set cells i x) n u ≡ forward_of cells n u
forward_kept cells n i x h u =
    by_cases (dec_lt u n)
    (λ g. forward_in (set cells i x) n u g ∙ get_or-set_other cells i u x 0 (λ e. omega arith) ∙ sym (forward_in cells n u g))
    (λ g. forward_own (set cells i x) n u (omega arith) ∙ sym (forward_own cells n u (omega arith)))

-- cells that agree from n on agree from any place behind
pub drop_behind : (n k : ℕ) (a b : List ℕ) → n ≤ k → drop n a ≡ drop n b → drop k a ≡ drop k b
drop_behind n k a b h e = split a ∙ ap (drop (k - n)) e ∙ sym (split b)
  where
    split : (l : List ℕ) → drop k l ≡ drop (k - n) (drop n l)
    split l = ap (λ j. drop j l) whole ∙ sym (drop-drop (k - n) n l)
      where
        whole : k ≡ n + (k - n)
        whole = omega arith

-- halving keeps the state that the cells hold
pub kept_state : {n : ℕ} {old after : List ℕ} (room count : ℕ) → n ≤ room → Kept n old after → (c : Cells) (m : ℕ)
    → state_of c (forward_of after n) (pending_of (drop room after) count) m
    ≡ state_of c (forward_of old n) (pending_of (drop room old) count) m
kept_state {n} {old} {after} room count h k c m =
    ap (λ l. state_of c (forward_of after n) (pending_of l count) m) (drop_behind n room after old h k.rest)
    ∙ roots_path c (forward_of after n) (forward_of old n) (pending_of (drop room old) count) m k.roots

module _ {old : List ℕ} {n room count p q r : ℕ} {after : List ℕ} (h : Ready old n room count p q) (k : United old n room count p q r after) where
  abbrev f : ℕ → ℕ
  f = forward_of old n

  abbrev halves : List ℕ
  halves = both_halved old p q

  halves_kept : Kept n old halves
  halves_kept =
      let first = kept_path p old n p h.left (omega (arith, h.behind, h.fits)) h.falls in
      kept_both first (kept_path q (halved_from old p) n q h.right (omega (arith, first.same, h.behind, h.fits)) first.falls)

  abbrev lo : ℕ
  lo = min (root_of f p) (root_of f q)

  abbrev hi : ℕ
  hi = max (root_of f p) (root_of f q)

  hi_inside : hi < n
  hi_inside = omega (arith, root_le f h.falls p, root_le f h.falls q, h.left, h.right)

  after_same : root_of f p ≡ root_of f q → after ≡ halves
  after_same e = k.cells ∙ cells_same halves (room + count) (root_of f p) (root_of f q) e

  after_more : (root_of f p ≡ root_of f q → ⊥) → after ≡ set (set halves hi lo) (room + count) hi
  unfolding sent
  after_more e = k.cells ∙ cells_more halves (room + count) (root_of f p) (root_of f q) e

  -- forward with the greater root sent to the smaller
  forward_more : (root_of f p ≡ root_of f q → ⊥) → forward_of after n ≡ redirected (forward_of halves n) hi lo
  forward_more e =
      ap (λ l. forward_of l n) (after_more e)
      ∙ fun_ext (λ u. forward_kept (set halves hi lo) n (room + count) hi (omega (arith, h.behind)) u
      ∙ forward_set halves n hi lo hi_inside (omega (arith, halves_kept.same, h.behind, h.fits)) u)

  -- the pending cells are as they were, with the greater root behind them
  pending_more : (root_of f p ≡ root_of f q → ⊥) → drop room after ≡ set (drop room old) count hi
  pending_more e =
      ap (drop room) (after_more e)
      ∙ drop-set-add room (set halves hi lo) count hi
      ∙ ap (λ l. set l count hi) (drop-set-lt room halves hi lo (omega (arith, hi_inside, h.behind))
      ∙ drop_behind n room halves old h.behind halves_kept.rest)

  -- the number of pending points stays where the roots are one
  pub united_stays : root_of f p ≡ root_of f q → r ≡ count
  united_stays e = k.pending ∙ count_same count (root_of f p) (root_of f q) e

  -- and else grows by one
  pub united_grows : (root_of f p ≡ root_of f q → ⊥) → r ≡ suc count
  united_grows e = k.pending ∙ count_more count (root_of f p) (root_of f q) e ∙ add-one count

  pub united_length : length after ≡ length old
  united_length =
      by_cases (ℕ_discrete (root_of f p) (root_of f q)) (λ e. ap length (after_same e) ∙ halves_kept.same)
      (λ e. ap length (after_more e) ∙ (simp length-set halves_kept.same))

  pub united_falls : Falls (forward_of after n)
  united_falls =
      by_cases (ℕ_discrete (root_of f p) (root_of f q))
      (λ e. subst (λ l. Falls (forward_of l n)) (sym (after_same e)) halves_kept.falls)
      (λ e. subst Falls (sym (forward_more e)) (redirected_falls (forward_of halves n) hi lo halves_kept.falls (omega arith)))

  -- whatever lies behind the pending points is as it was
  pub united_behind : (j : ℕ) → n ≤ j → room + count < j → drop j after ≡ drop j old
  united_behind j g l =
      by_cases (ℕ_discrete (root_of f p) (root_of f q)) (λ e. ap (drop j) (after_same e) ∙ kept)
      (λ e. ap (drop j) (after_more e)
      ∙ drop-set-lt j (set halves hi lo) (room + count) hi l
      ∙ drop-set-lt j halves hi lo (omega (arith, hi_inside))
      ∙ kept)
    where
      kept : drop j halves ≡ drop j old
      kept = drop_behind n j halves old g halves_kept.rest

  -- the state that the cells hold is the model's
  pub united_state : (c : Cells) (m : ℕ)
      → state_of c (forward_of after n) (pending_of (drop room after) r) m
      ≡ united (state_of c f (pending_of (drop room old) count) m) p q
  united_state c m = by_cases (ℕ_discrete (root_of f p) (root_of f q)) same more
    where
      ps : List ℕ
      ps = pending_of (drop room old) count

      same : root_of f p ≡ root_of f q → state_of c (forward_of after n) (pending_of (drop room after) r) m ≡ united (state_of c f ps m) p q
      same e =
          ap (λ l. state_of c (forward_of l n) (pending_of (drop room l) r) m) (after_same e)
          ∙ ap (λ j. state_of c (forward_of halves n) (pending_of (drop room halves) j) m) (united_stays e)
          ∙ kept_state room count h.behind halves_kept c m
          ∙ sym (united_same (state_of c f ps m) p q e)

      more : (root_of f p ≡ root_of f q → ⊥) → state_of c (forward_of after n) (pending_of (drop room after) r) m ≡ united (state_of c f ps m) p q
      more e =
          ap (λ g. state_of c g (pending_of (drop room after) r) m) (forward_more e)
          ∙ ap (λ l. state_of c (redirected (forward_of halves n) hi lo) l m) pending
          ∙ sym (united_forward c (forward_of halves n) ps m halves_kept.falls p q lo hi
          (omega (arith, halves_kept.roots p, halves_kept.roots q)) (omega (arith, halves_kept.roots p, halves_kept.roots q))
          (omega (arith, e)))
          ∙ ap (λ s. united s p q) (roots_path c (forward_of halves n) f ps m halves_kept.roots)
        where
          pending : pending_of (drop room after) r ≡ hi ∷ ps
          pending =
              ap (pending_of (drop room after)) (united_grows e)
              ∙ ap (λ l. pending_of l (suc count)) (pending_more e)
              ∙ pending_push (drop room old) count hi (omega (arith, length-drop room old, h.fits))
