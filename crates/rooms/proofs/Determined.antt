-- The contracts of this crate, and what they leave (`specs/Rooms`: `Left`), fix their outcome.
--   found_determined, united_determined : two outcomes of `find`, and of `unite`, that conform on one input are equal
--   left_determined : two outcomes that leave one state and the same work cells are equal, table, work cells and count
-- Assumes nothing.
use mathlib.Core.Path.{◌≡◌, sym, ◌∙◌, ap}
use mathlib.Core.List.{List}
use Prim.Native.Nat.{ℕ}
use lib.ListN.{length, drop}
use Rattle.engine.specs.Engine.{State}
use Rattle.engine.specs.Work.{Holds}
use Rattle.engine.proofs.WorkLaws.{pending_length}
use Rattle.engine.proofs.HoldLaws.{holds_determined}
use Rattle.rooms.specs.declared.Room.{Room}
use Rattle.rooms.specs.Finding.{Found}
use Rattle.rooms.specs.Uniting.{United}
use Rattle.rooms.specs.Rooms.{with_made, Lent, Left}

pub found_determined : {old : List ℕ} {n v a b : ℕ} {w₁ w₂ : List ℕ} → Found old n v a w₁ → Found old n v b w₂ → (a ≡ b) × (w₁ ≡ w₂)
found_determined h k = (h.root ∙ sym k.root, h.cells ∙ sym k.cells)

pub united_determined : {old : List ℕ} {n room count p q a b : ℕ} {w₁ w₂ : List ℕ} → United old n room count p q a w₁
    → United old n room count p q b w₂ → (a ≡ b) × (w₁ ≡ w₂)
united_determined h k = (h.pending ∙ sym k.pending, h.cells ∙ sym k.cells)

-- points may have been made meanwhile
module _ {r : Room} {table work old : List ℕ} (h : Lent r table work) {s : State} {w : List ℕ} where
  held : {m : ℕ} {table' work' : List ℕ} {k : ℕ} → Left (with_made r m) table old s w table' work' k → Holds r.n r.rows table s.cells table'
  held l = record { same = l.table_same; cells = λ v y. ap (λ (t : State). t.cells v y) l.state; rest = l.table_rest }

  -- the pending points are counted
  counted : {m : ℕ} {table' work' : List ℕ} {k : ℕ} → Left (with_made r m) table old s w table' work' k → k ≡ length s.pending
  counted {m} {table'} {work'} {k} l =
      sym (pending_length (drop r.rows work') k) ∙ ap (λ (t : State). length t.pending) l.state

  pub left_determined : {m n : ℕ} {t₁ w₁ : List ℕ} {i : ℕ} {t₂ w₂ : List ℕ} {j : ℕ} → Left (with_made r m) table old s w t₁ w₁ i
      → Left (with_made r n) table old s w t₂ w₂ j → (t₁ ≡ t₂) × (w₁ ≡ w₂) × (i ≡ j)
  left_determined a b =
      (holds_determined h.some h.lent (held a) (held b), a.cells ∙ sym b.cells, counted a ∙ sym (counted b))
