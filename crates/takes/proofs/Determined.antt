-- The contracts of this crate fix their outcome: two outcomes that conform on one input are equal, answer and cells.
--   front_determined, back_determined : of `read_front` and `read_back`
--   grow_determined, close_determined, chain_determined, circle_determined, take_determined : of the function of that name
-- Assumes nothing.
use mathlib.Core.Path.{◌≡◌, sym, ◌∙◌, ap}
use mathlib.Core.List.{List}
use Prim.Native.Nat.{ℕ}
use native.Mathlib.Omega.{arith}
use lib.ListN.{length, length-take, length-drop}
use Rattle.theory.specs.Tables.{Cells}
use Rattle.rooms.specs.declared.Room.{Room}
use Rattle.rooms.proofs.Determined.{left_determined}
use Rattle.takes.specs.declared.Stop.{Stop}
use Rattle.takes.specs.Readings.{FrontOf, BackOf}
use Rattle.takes.specs.Chains.{Growing, GrownIn, ChainFits, ClosedIn, Chained}
use Rattle.takes.specs.Takes.{Takeable, CircleOf, TakenIn}

stop_path : {f g : Stop} → f.point ≡ g.point → f.count ≡ g.count → f ≡ g
stop_path e d = λ i. record { point = e i; count = d i }

pub front_determined : {c : Cells} {w : List ℕ} {f g : Stop} → FrontOf c w f → FrontOf c w g → f ≡ g
front_determined {c} {w} {f} {g} h k =
    stop_path (h.point ∙ sym k.point)
    (omega (arith, ap length h.rest, ap length k.rest, length-drop f.count w, length-drop g.count w, h.inside, k.inside))

pub back_determined : {c : Cells} {w : List ℕ} {f g : Stop} → BackOf c w f → BackOf c w g → f ≡ g
back_determined {c} {w} {f} {g} h k =
    stop_path (h.point ∙ sym k.point)
    (omega (arith, ap length h.rest, ap length k.rest, length-take f.count w, length-take g.count w, h.inside, k.inside))

module _ {r : Room} {table work t₁ w₁ t₂ w₂ : List ℕ} where
  pub grow_determined : {count at i k l : ℕ} → Growing r table work count at i → GrownIn r table work count at i t₁ w₁ k
      → GrownIn r table work count at i t₂ w₂ l → (t₁ ≡ t₂) × (w₁ ≡ w₂) × (k ≡ l)
  grow_determined h = left_determined h.fit.lent

  pub close_determined : {count at b i end k l : ℕ} → ChainFits r table work count at b i end → ClosedIn r table work count at b i end t₁ w₁ k
      → ClosedIn r table work count at b i end t₂ w₂ l → (t₁ ≡ t₂) × (w₁ ≡ w₂) × (k ≡ l)
  close_determined h = left_determined h.fit.lent

  pub chain_determined : {a b first end m p n q : ℕ} → ChainFits r table work 0 a b first end
      → Chained r table work 0 a b first end m p t₁ w₁ → Chained r table work 0 a b first end n q t₂ w₂
      → (m ≡ n) × (p ≡ q) × (t₁ ≡ t₂) × (w₁ ≡ w₂)
  chain_determined h x y =
      let e = left_determined h.fit.lent x.left y.left in (x.made_is ∙ sym y.made_is, e.2, e.0, e.1)

  module _ {text : List ℕ} (h : Takeable r text table work) where
    pub circle_determined : {m p a n q b : ℕ} → CircleOf r text table work m p a t₁ w₁ → CircleOf r text table work n q b t₂ w₂
        → (m ≡ n) × (p ≡ q) × (a ≡ b) × (t₁ ≡ t₂) × (w₁ ≡ w₂)
    circle_determined x y =
        let e = left_determined h.fit.lent x.leaves y.leaves in
        (x.made_is ∙ sym y.made_is, e.2, x.letters ∙ sym y.letters, e.0, e.1)

    pub take_determined : {m a n b : ℕ} → TakenIn r text table work m a t₁ w₁ → TakenIn r text table work n b t₂ w₂
        → (m ≡ n) × (a ≡ b) × (t₁ ≡ t₂) × (w₁ ≡ w₂)
    take_determined x y =
        let e = left_determined h.fit.lent x.leaves y.leaves in
        (x.made_is ∙ sym y.made_is, x.letters ∙ sym y.letters, e.0, e.1)
