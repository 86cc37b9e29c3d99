-- What the contracts of this crate shut out, on six forward cells: 5 leads to 4, 3, 1 and 0.
--   unhalved    : finding the root of 5 may not leave the way as it was
--   other_order : halving the way of 4 before that of 5 leaves other cells than halving it after
-- Assumes nothing.
use mathlib.Core.Path.{◌≡◌, ap}
use mathlib.Core.List.{List, [], ◌∷◌}
use Prim.Native.Nat.{ℕ}
use native.Mathlib.Omega.{arith}
use lib.ListN.{get_or}
use Rattle.rooms.specs.Finding.{halved_path, Found}
use Rattle.rooms.specs.Uniting.{both_halved}

abbrev names : List ℕ
names = 0 ∷ 0 ∷ 2 ∷ 1 ∷ 3 ∷ 4 ∷ []

pub unhalved : Found names 6 5 0 names → ⊥
unfolding halved_path
unhalved h = omega (arith, ap (λ l. get_or l 5 0) h.cells)

pub other_order : both_halved names 5 4 ≡ both_halved names 4 5 → ⊥
unfolding halved_path
other_order e = omega (arith, ap (λ l. get_or l 4 0) e)
