-- Computed cases of `decimal_of`: numbers of one digit and of more, and the greatest of 64 bits.
--   cases_hold : each number of the list has the digits that stand against it
-- Assumes nothing.
use mathlib.Core.Path.{◌≡◌, refl}
use mathlib.Core.List.{[], ◌∷◌, map}
use Rattle.decimals.specs.Decimal.{digit_bytes, decimal_of}

pub cases_hold : map decimal_of (0 ∷ 9 ∷ 10 ∷ 300 ∷ 65536 ∷ 18446744073709551615 ∷ [])
    ≡ (48 ∷ []) ∷ (57 ∷ []) ∷ (49 ∷ 48 ∷ []) ∷ (51 ∷ 48 ∷ 48 ∷ []) ∷ (54 ∷ 53 ∷ 53 ∷ 51 ∷ 54 ∷ [])
    ∷ (49 ∷ 56 ∷ 52 ∷ 52 ∷ 54 ∷ 55 ∷ 52 ∷ 52 ∷ 48 ∷ 55 ∷ 51 ∷ 55 ∷ 48 ∷ 57 ∷ 53 ∷ 53 ∷ 49 ∷ 54 ∷ 49 ∷ 53 ∷ []) ∷ []
unfolding decimal_of digit_bytes
cases_hold = refl
