-- The turns of `drain` on plain values.
--   off, off_hand, turn_left : `turn` takes the newest pending point off, finds its root, and its edges move there
--   Head : some turns have been made, and what is left of them drains the rest
-- Assumes nothing.
use mathlib.Core.Path.{◌≡◌, refl, sym, ◌∙◌, ap, subst}
use mathlib.Core.List.{List, [], ◌∷◌}
use Prim.Native.Nat.{ℕ, zero, suc, ◌+◌, ◌-◌, ◌*◌, ◌≤◌, ◌<◌}
use native.Mathlib.Omega.{arith}
use lib.ListN.{length, get_or, drop}
use lib.Seq.{get_or-drop}
use Rattle.theory.specs.Letters.{usual}
use Rattle.theory.specs.Tables.{cell}
use Rattle.theory.proofs.MemLaws.{◌∈◌, here}
use Rattle.engine.specs.Engine.{State, with_pending, cleared, turned_by, turned, turned_times, drained}
use Rattle.engine.specs.Stages.{Handles, Roomy, weight}
use Rattle.engine.specs.Work.{pending_of}
use Rattle.engine.proofs.WorkLaws.{pending_length}
use Rattle.engine.proofs.DrainLaws.{
  some_root,
  pending_room,
  pending_made,
  taken_roomy,
  times_idle,
  turn_handles,
  turned_settles,
  turned_lighter,
}
use Rattle.rooms.specs.declared.Room.{Room}
use Rattle.rooms.specs.Finding.{halved_from, Found}
use Rattle.rooms.specs.WorkCells.{cleared_work, turned_work_by, turned_work, times_work, drained_work}
use Rattle.rooms.specs.Rooms.{state_in, Plain, Fit, Left, After}
use Rattle.rooms.proofs.FindLaws.{kept_found}
use Rattle.rooms.proofs.UniteLaws.{kept_state, drop_behind}
use Rattle.rooms.proofs.RoomLaws.{all_words, left_first, left_as, left_then, left_lent, fit_left}
use Rattle.drains.specs.Hands.{InHand}

-- ── One turn ──

module _ {r : Room} {table work : List ℕ} {count : ℕ} (h : Fit r [] table work count) (some : 0 < count) where
  abbrev s : State
  s = state_in r table work count

  abbrev rest : List ℕ
  rest = pending_of (drop r.rows work) (count - 1)

  pub last_inside : r.rows + (count - 1) < length work
  last_inside =
      omega (arith, pending_room h.stage h.roomy, pending_length (drop r.rows work) count, h.lent.inside, h.lent.room)

  -- the pending points: the one that is taken off, and the rest
  module _ {v : ℕ} (e : v ≡ get_or work (r.rows + (count - 1)) 0) where
    off : s.pending ≡ v ∷ rest
    unfolding pending_of
    off = ap (pending_of (drop r.rows work)) one ∙ ap (λ x. x ∷ rest) (get_or-drop r.rows work (count - 1) 0 ∙ sym e)
      where
        one : count ≡ suc (count - 1)
        one = omega arith

    pub off_made : v < r.made
    off_made = pending_made h.stage v (subst (λ p. v ∈ p) (sym off) (here refl))

    module _ {u : ℕ} {after : List ℕ} (f : Found work r.made v u after) where
      -- finding the root changes no state
      found_left : Left r table work (with_pending s rest) (halved_from work v) table after (count - 1)
      found_left =
          let k = kept_found off_made (omega (arith, h.lent.inside, h.lent.room)) h.lent.falls f in
          record {
            state = kept_state r.rows (count - 1) h.lent.inside k (cell r.n r.rows table) r.made;
            cells = f.cells;
            falls = k.falls;
            table_same = refl;
            table_rest = refl;
            work_same = k.same;
            work_rest = drop_behind r.made (2 * r.rows) after work (omega (arith, h.lent.inside)) k.rest;
          }

      pub off_hand : InHand r table after (count - 1) v u
      off_hand =
          record {
            lent = left_lent h.lent found_left;
            handles = subst (λ t. Handles (λ w. Unit {0}) (λ p. []) (usual r.n) t v u) (sym found_left.state)
                (subst (Handles (λ w. Unit {0}) (λ p. []) (usual r.n) (with_pending s rest) v) (sym f.root)
                (turn_handles all_words h.stage v rest off));
            roomy = subst Roomy (sym found_left.state) (taken_roomy s v rest off h.roomy);
          }

      pub turn_left : {table' work' : List ℕ} {k : ℕ}
          → After r (λ t. cleared t v u (usual r.n)) (λ t w. cleared_work r.rows t w v u (usual r.n)) table after (count - 1) table' work' k
          → After r (turned (usual r.n)) (turned_work r.rows (usual r.n)) table work count table' work' k
      unfolding turned_by turned_work_by
      turn_left m =
          left_as
          (ap (λ x. cleared (with_pending s rest) v x (usual r.n)) f.root ∙ sym (ap (turned_by (usual r.n) s) off))
          (ap (λ x. cleared_work r.rows (with_pending s rest) (halved_from work v) v x (usual r.n)) f.root
          ∙ sym (ap (turned_work_by r.rows (usual r.n) s work) off))
          (left_then found_left (λ t. cleared t v u (usual r.n)) (λ t w. cleared_work r.rows t w v u (usual r.n)) m)

-- ── The loop ──

-- nothing pending: no cell changes
work_idle : (R : ℕ) (ys : List ℕ) (d : ℕ) (s : State) (w : List ℕ) → s.pending ≡ [] → times_work R ys d s w ≡ w
unfolding times_work turned_by turned_work_by
work_idle R ys zero s w e = refl
work_idle R ys (suc d) s w e =
    ap (λ l. times_work R ys d (turned_by ys s l) (turned_work_by R ys s w l)) e ∙ work_idle R ys d s w e

pub record Head (r : Room) (table₀ work₀ : List ℕ) (count : ℕ) (table work : List ℕ) (waiting : ℕ) : Type 0 where
  pub fit : Fit r [] table work waiting
  pub left : Left r table₀ work₀ (state_in r table work waiting) work table work waiting
  -- as many turns as are left
  pub turns : ℕ
  pub enough : weight (state_in r table work waiting) ≤ suc turns
  pub ends : turned_times (usual r.n) turns (state_in r table work waiting) ≡ drained (usual r.n) (state_in r table₀ work₀ count)
  pub cells
      : times_work r.rows (usual r.n) turns (state_in r table work waiting) work
      ≡ drained_work r.rows (usual r.n) (state_in r table₀ work₀ count) work₀

pub head_first : {r : Room} {table work : List ℕ} {count : ℕ} → Fit r [] table work count → Head r table work count table work count
head_first {r} {table} {work} {count} h =
    record { fit = h; left = left_first h.lent count; turns = r.made; enough = omega (arith, h.roomy); ends = refl; cells = refl }

module _ {r : Room} {table₀ work₀ : List ℕ} {count : ℕ} {table work : List ℕ} {waiting : ℕ}
    (h : Head r table₀ work₀ count table work waiting) where
  abbrev now : State
  now = state_in r table work waiting

  abbrev next : State
  next = turned (usual r.n) now

  waits : 0 < waiting → now.pending ≡ [] → ⊥
  waits some e = omega (arith, ap length e, pending_length (drop r.rows work) waiting)

  lighter : 0 < waiting → suc (weight next) ≡ weight now
  lighter some = turned_lighter all_words h.fit.stage (waits some)

  module _ {table' work' : List ℕ} {k : ℕ} (some : 0 < waiting)
      (m : After r (turned (usual r.n)) (turned_work r.rows (usual r.n)) table work waiting table' work' k) where
    pub head_less : weight (state_in r table' work' k) < weight now
    head_less = omega (arith, ap weight m.state, lighter some)

    pub head_turn : Head r table₀ work₀ count table' work' k
    unfolding turned_times times_work
    head_turn = go h.turns h.enough h.ends h.cells
      where
        settles : Plain r [] next
        settles = (turned_settles all_words h.fit.stage).stage

        go : (d : ℕ) → weight now ≤ suc d → turned_times (usual r.n) d now ≡ drained (usual r.n) (state_in r table₀ work₀ count)
            → times_work r.rows (usual r.n) d now work ≡ drained_work r.rows (usual r.n) (state_in r table₀ work₀ count) work₀
            → Head r table₀ work₀ count table' work' k
        go zero g e f = absurd (omega (arith, some_root h.fit.stage, pending_length (drop r.rows work) waiting))
        go (suc d) g e f =
            record {
              fit = fit_left h.fit.lent m settles
                  (omega (arith, lighter some, h.fit.roomy, (turned_settles all_words h.fit.stage).made));
              left = left_as (sym m.state) (sym m.cells)
                  (left_then h.left (turned (usual r.n)) (turned_work r.rows (usual r.n)) m);
              turns = d;
              enough = omega (arith, ap weight m.state, lighter some);
              ends = ap (turned_times (usual r.n) d) m.state ∙ e;
              cells = ap (λ t. times_work r.rows (usual r.n) d t work') m.state ∙ ap (times_work r.rows (usual r.n) d next) m.cells ∙ f;
            }

  pub head_done : waiting ≡ 0 → After r (drained (usual r.n)) (drained_work r.rows (usual r.n)) table₀ work₀ count table work 0
  unfolding pending_of
  head_done e =
      left_as (sym (times_idle (usual r.n) h.turns now empty) ∙ h.ends)
      (sym (work_idle r.rows (usual r.n) h.turns now work empty) ∙ h.cells)
      (subst (λ k. Left r table₀ work₀ now work table work k) e h.left)
    where
      empty : now.pending ≡ []
      empty = ap (pending_of (drop r.rows work)) e
