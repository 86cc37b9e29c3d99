-- The contracts of this crate fix their outcome: two outcomes that conform on one input are equal, count and cells.
--   edge_determined : one of `put_at`, `put_edge` and `unlink`
--   unite_determined, link_determined, move_determined : one of `unite`, of `link`, and of `move_edge`
-- Assumes nothing.
use mathlib.Core.Path.{◌≡◌}
use mathlib.Core.List.{List}
use Prim.Native.Nat.{ℕ}
use native.Mathlib.Omega.{arith}
use Rattle.theory.specs.Tables.{Cells}
use Rattle.engine.specs.Engine.{united, joined, moved}
use Rattle.engine.specs.Work.{Holds}
use Rattle.engine.proofs.HoldLaws.{holds_determined}
use Rattle.rooms.specs.declared.Room.{Room}
use Rattle.rooms.specs.WorkCells.{united_work, joined_work, moved_work}
use Rattle.rooms.specs.Rooms.{Usable, After}
use Rattle.rooms.proofs.Determined.{left_determined}
use Rattle.links.specs.Links.{InTable}

pub edge_determined : {r : Room} {table : List ℕ} {v y : ℕ} → InTable r table v y → {c : Cells} {t₁ t₂ : List ℕ}
    → Holds r.n r.rows table c t₁ → Holds r.n r.rows table c t₂ → t₁ ≡ t₂
edge_determined h = holds_determined (omega (arith, h.letter)) h.lent

module _ {r : Room} {table work : List ℕ} {count : ℕ} (h : Usable r table work count) {t₁ w₁ : List ℕ} {i : ℕ} {t₂ w₂ : List ℕ} {j : ℕ} where
  pub unite_determined : (p q : ℕ) → After r (λ s. united s p q) (λ s w. united_work r.rows s w p q) table work count t₁ w₁ i
      → After r (λ s. united s p q) (λ s w. united_work r.rows s w p q) table work count t₂ w₂ j
      → (t₁ ≡ t₂) × (w₁ ≡ w₂) × (i ≡ j)
  unite_determined p q = left_determined h.lent

  pub link_determined : (a y b : ℕ) → After r (λ s. joined s a y b) (λ s w. joined_work r.rows s w a y b) table work count t₁ w₁ i
      → After r (λ s. joined s a y b) (λ s w. joined_work r.rows s w a y b) table work count t₂ w₂ j
      → (t₁ ≡ t₂) × (w₁ ≡ w₂) × (i ≡ j)
  link_determined a y b = left_determined h.lent

  pub move_determined : (v u y : ℕ) → After r (λ s. moved s v u y) (λ s w. moved_work r.rows s w v u y) table work count t₁ w₁ i
      → After r (λ s. moved s v u y) (λ s w. moved_work r.rows s w v u y) table work count t₂ w₂ j
      → (t₁ ≡ t₂) × (w₁ ≡ w₂) × (i ≡ j)
  move_determined v u y = left_determined h.lent
