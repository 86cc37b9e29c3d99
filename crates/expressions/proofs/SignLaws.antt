-- Signed numbers as the machine holds them, all of them small.
--   read_back : the bits of a small number read as that number
--   below     : the test for a number below 0
-- Assumes nothing.
use mathlib.Core.Path.{◌≡◌, refl, ◌∙◌, ap}
use mathlib.Core.Bool.{Bool, true, false}
use Prim.Native.Nat.{◌≤◌}
use native.Mathlib.Omega.{arith}
use lib.IntN.{ℤ, pos, negsuc, nat_abs}
use lib.Signed.{lt_z}
use mir.Syntax.{w32}
use mir.Val.{SFits, to_z, of_z}
use mir.ValLaws.{to_z-of_z}
use borrow.Author.Tests.{le-ltb}

-- a number below 0
abbrev pub is_back : ℤ → Bool
is_back (pos k) = false
is_back (negsuc k) = true

fits_small : (z : ℤ) → nat_abs z ≤ 54526004 → SFits w32 z
fits_small (pos k) h = record { sfits = omega arith }
fits_small (negsuc k) h = record { sfits = omega arith }

module _ (z : ℤ) (h : nat_abs z ≤ 54526004) where
  pub read_back : to_z w32 (of_z w32 z) ≡ z
  read_back = to_z-of_z w32 z (fits_small z h)

  -- what the machine tests is whether z is below 0
  pub below : lt_z (to_z w32 (of_z w32 z)) (pos 0) ≡ is_back z
  below = ap (λ u. lt_z u (pos 0)) read_back ∙ at z
    where
      at : (u : ℤ) → lt_z u (pos 0) ≡ is_back u
      at (pos k) = le-ltb k 0 (omega arith)
      at (negsuc k) = refl
