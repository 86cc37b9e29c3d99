-- Points and what stands between them, whatever their names.
--   Between s p y q <-> some name of the root p has a cell y that names a name of the root q
--   Over s v y u    <-> the same of the points of v and u
--   TwoBetween s v  <-> two different letters leave the point of v
-- Every operation keeps these (`GrowLaws`); when nothing is pending they are said of cells (`FoldLaws`). Assumes nothing.
use Rattle.std.specs.Prelude.{◌≡◌, ℕ}
use Rattle.theory.specs.Tables.{Leads, Steps}
use Rattle.engine.specs.Engine.{State}

abbrev pub Between : State → Steps
Between s p y q = (v : ℕ) × (x : ℕ) × Leads s.cells v y x × (s.root v ≡ p) × (s.root x ≡ q)

abbrev pub Over : State → Steps
Over s v y u = Between s (s.root v) y (s.root u)

abbrev pub TwoBetween : State → ℕ → Type 0
TwoBetween s v =
    (y : ℕ) × (z : ℕ) × (p : ℕ) × (q : ℕ) × (y ≡ z → ⊥) × Between s (s.root v) y p × Between s (s.root v) z q
