-- Roots found by halving (`specs/Finding`), and the turns of `find` on plain values.
--   Kept n old after <-> what halving keeps: the length, that forward falls, every root, and the cells from n on
--   kept_path        : halving a way keeps all that; kept_found : so does `find`
-- Assumes nothing.
use mathlib.Core.Path.{◌≡◌, refl, sym, ◌∙◌, ap, subst, fun_ext}
use mathlib.Core.Logic.{by_cases}
use mathlib.Core.List.{List}
use Prim.Native.Nat.{ℕ, zero, suc, ◌≤◌, ◌<◌}
use native.Mathlib.Decide.{ℕ_discrete}
use native.Mathlib.Omega.{arith}
use lib.ListN.{length, get_or, drop, set, length-set}
use lib.Seq.{drop-set-lt}
use borrow.Author.Tests.{eq-eqb, ne_eqb}
use Rattle.engine.specs.Roots.{Falls, root_of, redirected, halved}
use Rattle.engine.specs.Work.{forward_of}
use Rattle.engine.proofs.RootLaws.{root_own, root_le, root_step, halved_root, halved_falls}
use Rattle.engine.proofs.WorkLaws.{forward_in, forward_set}
use Rattle.rooms.specs.Finding.{two_on, halved_path, halved_from, Found}

pub record Kept (n : ℕ) (old after : List ℕ) : Type 0 where
  pub same : length after ≡ length old
  pub falls : Falls (forward_of after n)
  pub roots : (u : ℕ) → root_of (forward_of after n) u ≡ root_of (forward_of old n) u
  pub rest : drop n after ≡ drop n old

pub kept_first : (n : ℕ) (old : List ℕ) → Falls (forward_of old n) → Kept n old old
kept_first n old f = record { same = refl; falls = f; roots = λ u. refl; rest = refl }

pub kept_both : {n : ℕ} {a b c : List ℕ} → Kept n a b → Kept n b c → Kept n a c
kept_both h k =
    record {
      same = k.same ∙ h.same;
      falls = k.falls;
      roots = λ u. k.roots u ∙ h.roots u;
      rest = k.rest ∙ h.rest;
    }

module _ (cells : List ℕ) (n v : ℕ) (inside : v < n) (room : n ≤ length cells) (falls : Falls (forward_of cells n)) where
  -- the next name is no greater
  pub next_le : get_or cells v 0 ≤ v
  next_le = subst (λ x. x ≤ v) (forward_in cells n v inside) (falls v)

  -- two steps are two steps of forward
  pub two_on_lem : two_on cells v ≡ forward_of cells n (forward_of cells n v)
  two_on_lem =
      sym (forward_in cells n (get_or cells v 0) (omega (arith, next_le)))
      ∙ ap (forward_of cells n) (sym (forward_in cells n v inside))

  pub two_le : two_on cells v ≤ get_or cells v 0
  two_le = subst (λ x. x ≤ get_or cells v 0) (forward_in cells n (get_or cells v 0) (omega (arith, next_le))) (falls (get_or cells v 0))

  -- forward once v is sent two steps on
  halves : forward_of (set cells v (two_on cells v)) n ≡ halved (forward_of cells n) v
  halves = fun_ext (λ u. forward_set cells n v (two_on cells v) inside room u ∙ ap (λ x. redirected (forward_of cells n) v x u) two_on_lem)

  pub kept_set : Kept n cells (set cells v (two_on cells v))
  kept_set =
      record {
        same = simp length-set refl;
        falls = subst Falls (sym halves) (halved_falls (forward_of cells n) falls v);
        roots = λ u. ap (λ f. root_of f u) halves ∙ halved_root (forward_of cells n) falls v u;
        rest = drop-set-lt n cells v (two_on cells v) (omega arith);
      }

-- a root has no way to halve
pub path_end : (d : ℕ) (cells : List ℕ) (v : ℕ) → get_or cells v 0 ≡ v → halved_path d cells v ≡ cells
unfolding halved_path
path_end zero cells v e = refl
path_end (suc d) cells v e = rw (eq-eqb (get_or cells v 0) v e)

-- one turn
pub path_turn : (d : ℕ) (cells : List ℕ) (v : ℕ) → (get_or cells v 0 ≡ v → ⊥)
    → halved_path (suc d) cells v ≡ halved_path d (set cells v (two_on cells v)) (two_on cells v)
unfolding halved_path
path_turn d cells v e = rw (ne_eqb (get_or cells v 0) v e)

-- halving a way keeps the length, the roots and what lies behind the forward cells
pub kept_path : (d : ℕ) (cells : List ℕ) (n v : ℕ) → v < n → n ≤ length cells → Falls (forward_of cells n)
    → Kept n cells (halved_path d cells v)
kept_path zero cells n v i r f = unfold halved_path in kept_first n cells f
kept_path (suc d) cells n v i r f =
    by_cases (ℕ_discrete (get_or cells v 0) v)
    (λ e. subst (Kept n cells) (sym (path_end (suc d) cells v e)) (kept_first n cells f))
    (λ e. let k = kept_set cells n v i r f in
    subst (Kept n cells) (sym (path_turn d cells v e))
    (kept_both k
    (kept_path d (set cells v (two_on cells v)) n (two_on cells v)
    (omega (arith, two_le cells n v i r f, next_le cells n v i r f)) (omega (arith, k.same)) k.falls)))

-- ── For callers ──

module _ {old : List ℕ} {n v r : ℕ} {after : List ℕ} (inside : v < n) (room : n ≤ length old) (falls : Falls (forward_of old n)) (h : Found old n v r after) where
  pub kept_found : Kept n old after
  kept_found = subst (Kept n old) (sym h.cells) (kept_path v old n v inside room falls)

  -- the name found is no greater
  pub found_le : r ≤ v
  found_le = omega (arith, h.root, root_le (forward_of old n) falls v)

-- ── The loop ──

-- the way is halved up to the name `at`, whose cell holds `next`
pub record Head (old : List ℕ) (n v at next : ℕ) (cells : List ℕ) : Type 0 where
  pub inside : at < n
  pub room : n ≤ length old
  pub kept : Kept n old cells
  pub root : root_of (forward_of cells n) at ≡ root_of (forward_of old n) v
  pub read : next ≡ get_or cells at 0
  pub left : ℕ
  pub enough : at ≤ left
  pub path : halved_path left cells at ≡ halved_from old v

module _ {old : List ℕ} {n v at next : ℕ} {cells : List ℕ} (h : Head old n v at next cells) where
  pub head_room : n ≤ length cells
  head_room = omega (arith, h.room, h.kept.same)

  pub head_low : next ≤ at
  head_low = omega (arith, h.read, next_le cells n at h.inside head_room h.kept.falls)

  two : get_or cells next 0 ≡ two_on cells at
  two = ap (λ k. get_or cells k 0) h.read

  pub head_two : get_or cells next 0 ≤ next
  head_two = omega (arith, two, h.read, two_le cells n at h.inside head_room h.kept.falls)

  -- one turn: `at` is sent two steps on, and the way goes on from there
  pub head_turn : (next ≡ at → ⊥)
      → Head old n v (get_or cells next 0) (get_or (set cells at (get_or cells next 0)) (get_or cells next 0) 0) (set cells at (get_or cells next 0))
  head_turn e =
      subst (λ x. Head old n v x (get_or (set cells at x) x 0) (set cells at x)) (sym two) (go h.left h.enough h.path)
    where
      f : ℕ → ℕ
      f = forward_of cells n

      k : Kept n cells (set cells at (two_on cells at))
      k = kept_set cells n at h.inside head_room h.kept.falls

      go : (d : ℕ) → at ≤ d → halved_path d cells at ≡ halved_from old v
          → Head old n v (two_on cells at) (get_or (set cells at (two_on cells at)) (two_on cells at) 0) (set cells at (two_on cells at))
      go zero g p = absurd (e (omega (arith, head_low)))
      go (suc d) g p =
          record {
            inside = omega (arith, h.inside, two, head_two, head_low);
            room = h.room;
            kept = kept_both h.kept k;
            root = k.roots (two_on cells at)
                ∙ ap (root_of f) (two_on_lem cells n at h.inside head_room h.kept.falls)
                ∙ root_step f h.kept.falls (f at)
                ∙ root_step f h.kept.falls at
                ∙ h.root;
            read = refl;
            left = d;
            enough = omega (arith, two, head_two, head_low, e);
            path = sym (path_turn d cells at (λ q. e (h.read ∙ q))) ∙ p;
          }

  -- at the end of the way stands the root
  pub head_done : next ≡ at → Found old n v at cells
  head_done e =
      record {
        root = sym (root_own (forward_of cells n) h.kept.falls at (forward_in cells n at h.inside ∙ sym h.read ∙ e)) ∙ h.root;
        cells = sym (path_end h.left cells at (sym h.read ∙ e)) ∙ h.path;
      }
