-- The contracts of this crate fix their outcome: two outcomes that conform on one input are equal, count and cells.
--   clear_determined, turn_determined, drain_determined : of `clear_row`, `turn` and `drain`
-- Assumes nothing.
use mathlib.Core.Path.{◌≡◌}
use mathlib.Core.List.{List, []}
use Prim.Native.Nat.{ℕ}
use Rattle.theory.specs.Letters.{usual}
use Rattle.engine.specs.Engine.{cleared, turned, drained}
use Rattle.rooms.specs.declared.Room.{Room}
use Rattle.rooms.specs.WorkCells.{cleared_work, turned_work, drained_work}
use Rattle.rooms.specs.Rooms.{Fit, After}
use Rattle.rooms.proofs.Determined.{left_determined}
use Rattle.drains.specs.Hands.{InHand}

module _ {r : Room} {table work : List ℕ} {count : ℕ} {t₁ w₁ t₂ w₂ : List ℕ} where
  pub clear_determined : {v u i j : ℕ} → InHand r table work count v u
      → After r (λ s. cleared s v u (usual r.n)) (λ s w. cleared_work r.rows s w v u (usual r.n)) table work count t₁ w₁ i
      → After r (λ s. cleared s v u (usual r.n)) (λ s w. cleared_work r.rows s w v u (usual r.n)) table work count t₂ w₂ j
      → (t₁ ≡ t₂) × (w₁ ≡ w₂) × (i ≡ j)
  clear_determined h = left_determined h.lent

  pub turn_determined : {i j : ℕ} → Fit r [] table work count
      → After r (turned (usual r.n)) (turned_work r.rows (usual r.n)) table work count t₁ w₁ i
      → After r (turned (usual r.n)) (turned_work r.rows (usual r.n)) table work count t₂ w₂ j
      → (t₁ ≡ t₂) × (w₁ ≡ w₂) × (i ≡ j)
  turn_determined h = left_determined h.lent

  pub drain_determined : Fit r [] table work count
      → After r (drained (usual r.n)) (drained_work r.rows (usual r.n)) table work count t₁ w₁ 0
      → After r (drained (usual r.n)) (drained_work r.rows (usual r.n)) table work count t₂ w₂ 0 → (t₁ ≡ t₂) × (w₁ ≡ w₂)
  drain_determined h a b = let e = left_determined h.lent a b in (e.0, e.1)
