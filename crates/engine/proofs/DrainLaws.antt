-- Draining the pending list (`specs/Engine`, `specs/Stages`).
--   Settles .. s t <-> from s to t, both between two turns: the stage again, all grown, no point made
--   pending_room    : so there is room for the list: fewer entries than points made
--   turned_settles  : one turn; turned_lighter : it takes one entry or root away
--   drained_empty   : so draining ends
-- Assumes nothing.
use mathlib.Core.Path.{◌≡◌, refl, sym, ◌∙◌, ap, subst}
use mathlib.Core.Logic.{inl, inr, ⊎_elim, by_cases}
use mathlib.Core.List.{List, [], ◌∷◌, ◌++◌}
use Prim.Native.Nat.{ℕ, zero, suc, ◌≤◌, ◌<◌}
use native.Mathlib.Decide.{ℕ_discrete, dec_lt}
use native.Mathlib.Omega.{arith}
use lib.ListN.{length}
use Rattle.theory.specs.Tables.{absent}
use Rattle.theory.proofs.ReadLaws.{Subgroup}
use Rattle.theory.proofs.DistinctLaws.{mem_get_or}
use Rattle.theory.proofs.MemLaws.{◌∈◌, here, further, mem-cons, mem-cast}
use Rattle.engine.specs.Engine.{State, with_pending, cleared, turned_by, turned, turned_times, drained}
use Rattle.engine.specs.Stages.{Stage, weight, Roomy, Handles}
use Rattle.engine.proofs.RootLaws.{count_some}
use Rattle.engine.proofs.GrowLaws.{Grows, grows_refl, grows_trans}
use Rattle.engine.proofs.StageLaws.{Kept}
use Rattle.engine.proofs.MoveLaws.{cleared_kept, cleared_row}

pub record Settles (H : List ℕ → Type 0) (label : ℕ → List ℕ) (ys : List ℕ) (s t : State) : Type 0 where
  pub stage : Stage H label ys [] t
  pub grows : Grows s t
  pub made : t.made ≡ s.made

module _ {H : List ℕ → Type 0} {label : ℕ → List ℕ} {ys : List ℕ} where
  -- the base is its own root
  pub base_root : {hand : List ℕ} {s : State} → Stage H label ys hand s → s.root 0 ≡ 0
  base_root g = omega (arith, g.low 0)

  -- there is at least one root
  pub some_root : {hand : List ℕ} {s : State} → Stage H label ys hand s → length s.pending < weight s
  unfolding weight
  some_root {s = s} g = omega (arith, count_some s.root s.made (base_root g) g.some)

  -- so there are fewer entries than points made
  pub pending_room : {hand : List ℕ} {s : State} → Stage H label ys hand s → Roomy s → length s.pending < s.made
  pending_room g r = omega (arith, some_root g)

  -- a pending point is a point made
  pub pending_made : {hand : List ℕ} {s : State} → Stage H label ys hand s → (v : ℕ) → v ∈ (hand ++ s.pending) → v < s.made
  pending_made {s = s} g v m = by_cases (dec_lt v s.made) (λ h. h) (λ h. absurd (g.waiting v m (g.unmade v (omega arith))))

  -- the point in hand, its row empty, is done with
  drop_hand : {v : ℕ} {s : State} → Stage H label ys (v ∷ []) s → ((z : ℕ) → s.cells v z ≡ absent) → Stage H label ys [] s
  drop_hand {v} {s} g e =
      record {
        turn = g.turn;
        within = g.within;
        lettered = g.lettered;
        some = g.some;
        fits = g.fits;
        low = g.low;
        idem = g.idem;
        unmade = g.unmade;
        live = λ p z x l.
            ⊎_elim inl
            (λ m. ⊎_elim (λ q. absurd (l.1 (sym l.0 ∙ ap (λ a. s.cells a z) q ∙ e z))) inr (mem-cons m)) (g.live p z x l);
        waiting = λ p m. g.waiting p (further m);
        base = g.base;
        labelled = g.labelled;
        alike = g.alike;
      }

  -- the newest pending point taken off, and in hand
  take_hand : {s : State} → Stage H label ys [] s → (v : ℕ) (ps : List ℕ) → s.pending ≡ v ∷ ps
      → Stage H label ys (v ∷ []) (with_pending s ps)
  take_hand {s} g v ps e =
      record {
        turn = g.turn;
        within = g.within;
        lettered = g.lettered;
        some = g.some;
        fits = g.fits;
        low = g.low;
        idem = g.idem;
        unmade = g.unmade;
        live = λ p z x l. ⊎_elim inl (λ m. inr (subst (λ q. p ∈ q) e m)) (g.live p z x l);
        waiting = λ p m. g.waiting p (subst (λ q. p ∈ q) (sym e) m);
        base = g.base;
        labelled = g.labelled;
        alike = g.alike;
      }

-- a step keeps room for the list
pub kept_roomy : {H : List ℕ → Type 0} {label : ℕ → List ℕ} {ys hand : List ℕ} {s t : State} → Kept H label ys hand s t
    → Roomy s → Roomy t
kept_roomy k r = omega (arith, k.weighs, k.made)

-- a point taken off leaves room too
pub taken_roomy : (s : State) (v : ℕ) (ps : List ℕ) → s.pending ≡ v ∷ ps → Roomy s → Roomy (with_pending s ps)
unfolding weight
taken_roomy s v ps e r = omega (arith, ap length e)

-- nothing pending: nothing happens
pub times_idle : (ys : List ℕ) (d : ℕ) (s : State) → s.pending ≡ [] → turned_times ys d s ≡ s
unfolding turned_times turned_by
times_idle ys zero s e = refl
times_idle ys (suc d) s e = ap (λ l. turned_times ys d (turned_by ys s l)) e ∙ times_idle ys d s e

module _ {H : List ℕ → Type 0} (S : Subgroup H) {label : ℕ → List ℕ} {ys : List ℕ} where
  -- one turn, on the point that stands first
  module _ {s : State} (g : Stage H label ys [] s) (v : ℕ) (ps : List ℕ) (e : s.pending ≡ v ∷ ps) where
    -- the point is in hand, and its edges move to its root
    pub turn_handles : Handles H label ys (with_pending s ps) v (s.root v)
    turn_handles =
        record {
          stage = take_hand g v ps e;
          one = g.idem v;
          other = g.waiting v first;
          alive = inl (g.idem v);
          inside = omega (arith, g.low v, pending_made g v first);
        }
      where
        first : v ∈ s.pending
        first = subst (λ q. v ∈ q) (sym e) (here refl)

    hand_kept : Kept H label ys (v ∷ []) (with_pending s ps) (cleared (with_pending s ps) v (s.root v) ys)
    hand_kept = cleared_kept S turn_handles ys

    row_empty : (z : ℕ) → (cleared (with_pending s ps) v (s.root v) ys).cells v z ≡ absent
    row_empty z =
        by_cases (ℕ_discrete ((cleared (with_pending s ps) v (s.root v) ys).cells v z) absent) (λ q. q)
        (λ n. let i = hand_kept.stage.lettered v z _ (refl, n) in
        cleared_row (with_pending s ps) v (s.root v) ys z turn_handles.other
        (inr (mem-cast (sym i.2) (mem_get_or ys i.0 0 i.1))))

    turn_settles : Settles H label ys s (turned_by ys s (v ∷ ps))
    unfolding turned_by
    turn_settles =
        record {
          stage = drop_hand hand_kept.stage row_empty;
          grows = record { same = hand_kept.grows.same; over = hand_kept.grows.over };
          made = hand_kept.made;
        }

    turn_lighter : suc (weight (turned_by ys s (v ∷ ps))) ≡ weight s
    unfolding weight turned_by
    turn_lighter = omega (arith, hand_kept.weighs, ap length e)

  -- one turn leads from settled to settled
  pub turned_settles : {s : State} → Stage H label ys [] s → Settles H label ys s (turned ys s)
  unfolding turned_by
  turned_settles {s} g = go s.pending refl
    where
      go : (l : List ℕ) → s.pending ≡ l → Settles H label ys s (turned_by ys s l)
      go [] e = record { stage = g; grows = grows_refl s; made = refl }
      go (v ∷ ps) e = turn_settles g v ps e

  -- where something is pending, a turn takes one entry or root away
  pub turned_lighter : {s : State} → Stage H label ys [] s → (s.pending ≡ [] → ⊥) → suc (weight (turned ys s)) ≡ weight s
  turned_lighter {s} g n = go s.pending refl
    where
      go : (l : List ℕ) → s.pending ≡ l → suc (weight (turned_by ys s l)) ≡ weight s
      go [] e = absurd (n e)
      go (v ∷ ps) e = turn_lighter g v ps e

  -- settled states follow each other
  pub settles_trans : {r s t : State} → Settles H label ys r s → Settles H label ys s t → Settles H label ys r t
  settles_trans f g =
      record { stage = g.stage; grows = grows_trans f.grows g.grows; made = g.made ∙ f.made }

  -- any number of turns
  pub times_settles : (d : ℕ) {s : State} → Stage H label ys [] s → Settles H label ys s (turned_times ys d s)
  unfolding turned_times
  times_settles zero {s} g = record { stage = g; grows = grows_refl s; made = refl }
  times_settles (suc d) g = let k = turned_settles g in settles_trans k (times_settles d k.stage)

  -- as many turns as entries and roots empty the list
  pub times_empty : (d : ℕ) {s : State} → Stage H label ys [] s → weight s ≤ suc d → (turned_times ys d s).pending ≡ []
  unfolding turned_times
  times_empty zero {s} g h = none s.pending (omega (arith, some_root g))
    where
      none : (l : List ℕ) → length l ≤ 0 → l ≡ []
      none [] k = refl
      none (a ∷ l) k = absurd (omega arith)
  times_empty (suc d) {s} g h = go s.pending refl (λ f. times_empty d (turned_settles g).stage f)
    where
      go : (l : List ℕ) → s.pending ≡ l → (weight (turned ys s) ≤ suc d → (turned_times ys d (turned ys s)).pending ≡ [])
          → (turned_times ys d (turned ys s)).pending ≡ []
      go [] e f = ap (λ t. t.pending) (times_idle ys (suc d) s e) ∙ e
      go (v ∷ ps) e f = f (omega (arith, turned_lighter g (λ q. filled (sym e ∙ q))))
        where
          filled : v ∷ ps ≡ [] → ⊥
          filled q = omega (arith, ap length q)

  -- draining settles
  pub drained_settles : {s : State} → Stage H label ys [] s → Settles H label ys s (drained ys s)
  drained_settles {s} g = times_settles s.made g

  -- and leaves nothing pending
  pub drained_empty : {s : State} → Stage H label ys [] s → Roomy s → (drained ys s).pending ≡ []
  drained_empty {s} g r = times_empty s.made g (omega arith)

  -- a turn makes nothing heavier
  turned_roomy : {s : State} → Stage H label ys [] s → weight (turned ys s) ≤ weight s
  unfolding turned_by
  turned_roomy {s} g = go s.pending refl
    where
      go : (l : List ℕ) → s.pending ≡ l → weight (turned_by ys s l) ≤ weight s
      go [] e = omega arith
      go (v ∷ ps) e = omega (arith, turn_lighter g v ps e)

  -- the weight only falls
  pub times_roomy : (d : ℕ) {s : State} → Stage H label ys [] s → weight (turned_times ys d s) ≤ weight s
  unfolding turned_times
  times_roomy zero g = omega arith
  times_roomy (suc d) g = omega (arith, times_roomy d (turned_settles g).stage, turned_roomy g)

  -- room is kept
  pub drained_roomy : {s : State} → Stage H label ys [] s → Roomy s → Roomy (drained ys s)
  drained_roomy {s} g r = omega (arith, times_roomy s.made g, (drained_settles g).made)
