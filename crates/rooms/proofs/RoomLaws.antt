-- Lent cells as a state (`specs/Rooms`).
--   left_first, left_then, left_after, left_as : doing nothing; one operation after another, also in a room that has grown;
--                 the same state by another name
--   plain_stage : any labels will do
--   left_cells  : the table alone changes; left_united : two points are made one
--   lent_grown, left_lent : what is lent stays lent; fit_grown, fit_left : and fit, where the stage and the room are kept
--   fit_usable  : what is fit is usable
-- Assumes nothing.
use mathlib.Core.Path.{◌≡◌, refl, sym, ◌∙◌, ap, subst, fun_ext}
use mathlib.Core.List.{List, []}
use Prim.Native.Nat.{ℕ, ◌+◌, ◌*◌, ◌≤◌, ◌<◌}
use native.Mathlib.Omega.{arith}
use lib.ListN.{drop}
use Rattle.theory.specs.Tables.{Cells, cell}
use Rattle.theory.proofs.ReadLaws.{Subgroup}
use Rattle.engine.specs.Engine.{State, state_of, with_cells, united}
use Rattle.engine.specs.Stages.{Stage, Roomy}
use Rattle.engine.specs.Work.{forward_of, pending_of, Holds}
use Rattle.engine.proofs.WorkLaws.{pending_length}
use Rattle.engine.proofs.StageLaws.{named_made}
use Rattle.engine.proofs.DrainLaws.{pending_room}
use Rattle.rooms.specs.declared.Room.{Room}
use Rattle.rooms.specs.Uniting.{both_halved, united_cells, United}
use Rattle.rooms.specs.WorkCells.{united_work}
use Rattle.rooms.specs.declared.Fold.{Fold}
use Rattle.rooms.specs.Rooms.{state_in, with_made, Lent, Usable, Plain, Fit, Left, After, Kept, Held}
use Rattle.rooms.proofs.UniteLaws.{Ready, united_state, united_falls, united_length, united_behind}

-- every word is in the subgroup of all words
pub all_words : Subgroup (λ w. Unit {0})
all_words = record { empty = tt; append = λ u v a b. tt; inverse = λ u a. tt; cong = λ u v e a. tt }

-- any labels will do
pub plain_stage : {label : ℕ → List ℕ} {ys hand : List ℕ} {s : State} → Stage (λ w. Unit {0}) label ys hand s
    → Stage (λ w. Unit {0}) (λ v. []) ys hand s
plain_stage g =
    record {
      turn = g.turn;
      within = g.within;
      lettered = g.lettered;
      some = g.some;
      fits = g.fits;
      low = g.low;
      idem = g.idem;
      unmade = g.unmade;
      live = g.live;
      waiting = g.waiting;
      base = refl;
      labelled = λ v y x l. tt;
      alike = λ v. tt;
    }

module _ {r : Room} {table work : List ℕ} (h : Lent r table work) where
  pub left_first : (count : ℕ) → Left r table work (state_in r table work count) work table work count
  left_first count =
      record {
        state = refl;
        cells = refl;
        falls = h.falls;
        table_same = refl;
        table_rest = refl;
        work_same = refl;
        work_rest = refl;
      }

  -- the table alone changes
  pub left_cells : {c : Cells} {after : List ℕ} (count : ℕ) → Holds r.n r.rows table c after
      → Left r table work (with_cells (state_in r table work count) c) work after work count
  left_cells {c} {after} count k =
      record {
        state = ap (λ d. state_of d (forward_of work r.made) (pending_of (drop r.rows work) count) r.made) (fun_ext (λ v. fun_ext (λ y. k.cells v y)));
        cells = refl;
        falls = h.falls;
        table_same = k.same;
        table_rest = k.rest;
        work_same = refl;
        work_rest = refl;
      }

pub left_as : {r : Room} {table work : List ℕ} {s t : State} {w v table' work' : List ℕ} {count : ℕ} → s ≡ t → w ≡ v
    → Left r table work s w table' work' count → Left r table work t v table' work' count
left_as e d k =
    record {
      state = k.state ∙ e;
      cells = k.cells ∙ d;
      falls = k.falls;
      table_same = k.table_same;
      table_rest = k.table_rest;
      work_same = k.work_same;
      work_rest = k.work_rest;
    }

-- one operation after another, where the room may have grown: f is what the second makes of the state, g of the work cells
pub left_after : {r q : Room} {table work : List ℕ} {s : State} {w mid way : List ℕ} {count : ℕ} {table' work' : List ℕ} {k : ℕ}
    → q.n ≡ r.n → q.rows ≡ r.rows → Left r table work s w mid way count → (f : State → State) (g : State → List ℕ → List ℕ)
    → Left q mid way (f (state_in r mid way count)) (g (state_in r mid way count) way) table' work' k
    → Left q table work (f s) (g s w) table' work' k
left_after {r} {q} {table} {work} {s} {w} {mid} {way} en er h f g m =
    record {
      state = m.state ∙ ap f h.state;
      cells = m.cells ∙ ap (λ t. g t way) h.state ∙ ap (g s) h.cells;
      falls = m.falls;
      table_same = m.table_same ∙ h.table_same;
      table_rest = m.table_rest ∙ subst (λ j. drop j mid ≡ drop j table) (sym cells) h.table_rest;
      work_same = m.work_same ∙ h.work_same;
      work_rest = m.work_rest ∙ subst (λ j. drop (2 * j) way ≡ drop (2 * j) work) (sym er) h.work_rest;
    }
  where
    cells : q.rows * (2 * q.n) ≡ r.rows * (2 * r.n)
    cells = ap (λ j. j * (2 * q.n)) er ∙ ap (λ j. r.rows * (2 * j)) en

pub left_then : {r : Room} {table work : List ℕ} {s : State} {w mid way : List ℕ} {count : ℕ} {table' work' : List ℕ} {k : ℕ}
    → Left r table work s w mid way count → (f : State → State) (g : State → List ℕ → List ℕ)
    → After r f g mid way count table' work' k → Left r table work (f s) (g s w) table' work' k
left_then h f g m = left_after refl refl h f g m

-- what is lent stays lent, where points have been made
pub lent_grown : {r : Room} (m : ℕ) {table work : List ℕ} {s : State} {w table' work' : List ℕ} {count : ℕ} → m ≤ r.rows
    → Lent r table work → Left (with_made r m) table work s w table' work' count → Lent (with_made r m) table' work'
lent_grown m l h k =
    record {
      some = h.some;
      most = h.most;
      inside = l;
      fits = h.fits;
      lent = omega (arith, h.lent, k.table_same);
      room = omega (arith, h.room, k.work_same);
      falls = k.falls;
    }

pub left_lent : {r : Room} {table work : List ℕ} {s : State} {w table' work' : List ℕ} {count : ℕ} → Lent r table work
    → Left r table work s w table' work' count → Lent r table' work'
left_lent {r} h k = lent_grown r.made h.inside h k

-- where the stage and the room are kept
pub fit_grown : {r : Room} (m : ℕ) {table work hand : List ℕ} {s : State} {w table' work' : List ℕ} {count : ℕ} → m ≤ r.rows
    → Lent r table work → Left (with_made r m) table work s w table' work' count → Plain r hand s → Roomy s
    → Fit (with_made r m) hand table' work' count
fit_grown {r} m {hand = hand} l h k p q =
    record {
      lent = lent_grown m l h k;
      stage = subst (Plain r hand) (sym k.state) p;
      roomy = subst Roomy (sym k.state) q;
    }

pub fit_left : {r : Room} {table work hand : List ℕ} {s : State} {w table' work' : List ℕ} {count : ℕ} → Lent r table work
    → Left r table work s w table' work' count → Plain r hand s → Roomy s → Fit r hand table' work' count
fit_left {r} h k p q = fit_grown r.made h.inside h k p q

pub fit_usable : {r : Room} {hand table work : List ℕ} {count : ℕ} → Fit r hand table work count → Usable r table work count
fit_usable {r} {hand} {table} {work} {count} h =
    record {
      lent = h.lent;
      named = λ v y x l. named_made all_words h.stage v y x l;
      spare = omega (arith, pending_room h.stage h.roomy, pending_length (drop r.rows work) count, h.lent.inside);
    }

-- ── Two points made one ──

module _ {r : Room} {table work : List ℕ} {count : ℕ} (h : Usable r table work count) (p q : ℕ) (hp : p < r.made) (hq : q < r.made) where
  pub unite_ready : Ready work r.made r.rows count p q
  unite_ready =
      record {
        falls = h.lent.falls;
        left = hp;
        right = hq;
        behind = h.lent.inside;
        fits = omega (arith, h.spare, h.lent.room);
      }

  pub left_united : {k : ℕ} {after : List ℕ} → United work r.made r.rows count p q k after
      → After r (λ s. united s p q) (λ s w. united_work r.rows s w p q) table work count table after k
  unfolding united_work
  left_united {k} {after} u =
      record {
        state = united_state unite_ready u (cell r.n r.rows table) r.made;
        cells = u.cells ∙ ap (λ j. united_cells (both_halved work p q) (r.rows + j) (root p) (root q)) (sym (pending_length (drop r.rows work) count));
        falls = united_falls unite_ready u;
        table_same = refl;
        table_rest = refl;
        work_same = united_length unite_ready u;
        work_rest = united_behind unite_ready u (2 * r.rows) (omega (arith, h.lent.inside)) (omega (arith, h.spare));
      }
    where
      root : ℕ → ℕ
      root = (state_in r table work count).root

-- the same lent slices and room, still and after one more step
pub same_first : {f : Fold} → Kept f f
same_first = record { table = refl; work = refl; room = refl }

pub same_then : {f g h : Fold} → Kept f g → Kept g h → Kept f h
same_then a b = record { table = b.table ∙ a.table; work = b.work ∙ a.work; room = b.room ∙ a.room }

-- points may have been made
pub held_first : {f : Fold} → Held f f
held_first = record { table = refl; work = refl; room = refl }

pub held_then : {f g h : Fold} → Held f g → Held g h → Held f h
held_then {f} {g} {h} a b =
    record { table = b.table ∙ a.table; work = b.work ∙ a.work; room = b.room ∙ ap (λ r. with_made r h.room.made) a.room }

pub held_same : {f g h : Fold} → Held f g → Kept g h → Held f h
held_same {f} a b =
    record { table = b.table ∙ a.table; work = b.work ∙ a.work; room = b.room ∙ a.room ∙ ap (λ (r : Room). with_made f.room r.made) (sym b.room) }
