-- The turns of `clear_row` on plain values.
--   Head .. y <-> the edges of the first y letters have moved
--   head_first, head_usable, head_turn, head_done : so it is at first and after a turn; what a turn asks; the end
-- Assumes nothing.
use mathlib.Core.Path.{◌≡◌, refl, sym, ◌∙◌, ap, subst}
use mathlib.Core.List.{List, [], ◌∷◌, ◌++◌}
use Prim.Native.Nat.{ℕ, ◌+◌, ◌*◌, ◌≤◌, ◌<◌}
use native.Mathlib.Omega.{arith}
use lib.ListN.{take}
use Rattle.std.proofs.lemmas.List.{take_all, take_more}
use Rattle.theory.specs.Letters.{usual}
use Rattle.theory.proofs.TableLaws.{length_usual, get_or_usual}
use Rattle.engine.specs.Engine.{State, moved, cleared}
use Rattle.engine.proofs.MoveLaws.{cleared_kept}
use Rattle.engine.proofs.DrainLaws.{kept_roomy}
use Rattle.rooms.specs.declared.Room.{Room}
use Rattle.rooms.specs.WorkCells.{moved_work, cleared_work}
use Rattle.rooms.specs.Rooms.{state_in, Usable, After}
use Rattle.rooms.proofs.RoomLaws.{all_words, left_first, left_as, left_then, fit_left, fit_usable}
use Rattle.drains.specs.Hands.{InHand}

-- a letter more
cleared_more : (s : State) (v u : ℕ) (l : List ℕ) (y : ℕ) → cleared s v u (l ++ (y ∷ [])) ≡ moved (cleared s v u l) v u y
unfolding cleared
cleared_more s v u [] y = refl
cleared_more s v u (x ∷ l) y = cleared_more (moved s v u x) v u l y

work_more : (R : ℕ) (s : State) (w : List ℕ) (v u : ℕ) (l : List ℕ) (y : ℕ)
    → cleared_work R s w v u (l ++ (y ∷ [])) ≡ moved_work R (cleared s v u l) (cleared_work R s w v u l) v u y
unfolding cleared cleared_work
work_more R s w v u [] y = refl
work_more R s w v u (x ∷ l) y = work_more R (moved s v u x) (moved_work R s w v u x) v u l y

usual_more : (n y : ℕ) → y < 2 * n → take (y + 1) (usual n) ≡ take y (usual n) ++ (y ∷ [])
usual_more n y h =
    take_more (usual n) y 0 (omega (arith, length_usual n)) ∙ ap (λ x. take y (usual n) ++ (x ∷ [])) (get_or_usual n y h)

-- the edges of the letters l have moved
abbrev ClearedBy : Room → ℕ → ℕ → List ℕ → List ℕ → List ℕ → ℕ → List ℕ → List ℕ → ℕ → Type 0
ClearedBy r v u l = After r (λ s. cleared s v u l) (λ s w. cleared_work r.rows s w v u l)

pub record Head (r : Room) (table₀ work₀ : List ℕ) (count v u y : ℕ) (table work : List ℕ) (waiting : ℕ) : Type 0 where
  pub left : ClearedBy r v u (take y (usual r.n)) table₀ work₀ count table work waiting

pub head_first : {r : Room} {table work : List ℕ} {count v u : ℕ} → InHand r table work count v u
    → Head r table work count v u 0 table work count
unfolding cleared cleared_work
head_first {count = count} h = record { left = left_first h.lent count }

module _ {r : Room} {table₀ work₀ : List ℕ} {count v u y : ℕ} {table work : List ℕ} {waiting : ℕ} (i : InHand r table₀ work₀ count v u)
    (h : Head r table₀ work₀ count v u y table work waiting) where
  pub head_usable : Usable r table work waiting
  head_usable =
      let kept = cleared_kept all_words i.handles (take y (usual r.n)) in
      fit_usable (fit_left i.lent h.left kept.stage (kept_roomy kept i.roomy))

  pub head_turn : {table' work' : List ℕ} {k : ℕ} → y < 2 * r.n
      → After r (λ s. moved s v u y) (λ s w. moved_work r.rows s w v u y) table work waiting table' work' k
      → Head r table₀ work₀ count v u (y + 1) table' work' k
  head_turn {table'} {work'} {k} l m =
      record {
        left =
            subst (λ ys. ClearedBy r v u ys table₀ work₀ count table' work' k) (sym (usual_more r.n y l))
            (left_as (sym (cleared_more old v u (take y (usual r.n)) y)) (sym (work_more r.rows old work₀ v u (take y (usual r.n)) y))
            (left_then h.left (λ s. moved s v u y) (λ s w. moved_work r.rows s w v u y) m));
      }
    where
      old : State
      old = state_in r table₀ work₀ count

  pub head_done : 2 * r.n ≤ y → ClearedBy r v u (usual r.n) table₀ work₀ count table work waiting
  head_done l =
      subst (λ ys. ClearedBy r v u ys table₀ work₀ count table work waiting) (take_all y (usual r.n) (omega (arith, length_usual r.n)))
      h.left
