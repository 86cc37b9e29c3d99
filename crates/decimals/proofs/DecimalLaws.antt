-- Laws of the decimal digits (`specs/Decimal`).
--   decimal_small, decimal_more : the digits of a number, by those of a tenth of it
--   decimal_some                : there is a first digit
--   decimal_fits                : 20 digits hold every number of 64 bits
-- Assumes nothing.
use mathlib.Core.Path.{◌≡◌, refl, ◌∙◌, ap}
use mathlib.Core.Logic.{by_cases}
use mathlib.Core.List.{[], ◌∷◌, ◌++◌}
use Prim.Native.Nat.{ℕ, zero, suc, ◌+◌, ◌/◌, ◌%◌, ◌^◌, ◌≤◌, ◌<◌}
use native.Mathlib.Decide.{dec_lt}
use native.Mathlib.Nat.{pow-suc}
use native.Mathlib.Omega.{arith}
use lib.ListN.{length, length-append}
use Rattle.decimals.specs.Decimal.{digit_bytes, decimal_of}

-- room for more digits than the number has changes nothing
enough : (d e x : ℕ) → x ≤ d → x ≤ e → digit_bytes d x ≡ digit_bytes e x
unfolding digit_bytes
enough zero zero x h k = refl
enough zero (suc e) zero h k = refl
enough zero (suc e) (suc y) h k = absurd (omega arith)
enough (suc d) zero zero h k = refl
enough (suc d) zero (suc y) h k = absurd (omega arith)
enough (suc d) (suc e) zero h k = refl
enough (suc d) (suc e) (suc y) h k =
    ap (λ l. l ++ ((48 + suc y % 10) ∷ [])) (enough d e (suc y / 10) (omega arith) (omega arith))

pub decimal_small : (x : ℕ) → x < 10 → decimal_of x ≡ (48 + x) ∷ []
unfolding decimal_of digit_bytes
decimal_small zero h = refl
decimal_small (suc y) h =
    ap (λ l. l ++ ((48 + suc y % 10) ∷ [])) (ap (digit_bytes y) none ∙ enough y 0 0 (omega arith) (omega arith))
    ∙ ap (λ k. (48 + k) ∷ []) last
  where
    none : suc y / 10 ≡ 0
    none = omega arith

    last : suc y % 10 ≡ suc y
    last = omega arith

-- a number that is not 0 has the digits of the recursion, in any room
decimal_room : (d x : ℕ) → 0 < x → x ≤ d → digit_bytes d x ≡ decimal_of x
unfolding decimal_of
decimal_room d zero h k = absurd (omega arith)
decimal_room d (suc y) h k = enough d (suc y) (suc y) k (omega arith)

pub decimal_more : (x : ℕ) → 9 < x → decimal_of x ≡ decimal_of (x / 10) ++ ((48 + x % 10) ∷ [])
unfolding decimal_of digit_bytes
decimal_more zero h = absurd (omega arith)
decimal_more (suc y) h =
    ap (λ l. l ++ ((48 + suc y % 10) ∷ [])) (decimal_room y (suc y / 10) (omega arith) (omega arith))

-- the number of digits, in the two cases
pub length_small : (x : ℕ) → x < 10 → length (decimal_of x) ≡ 1
length_small x h = ap length (decimal_small x h)

pub length_more : (x : ℕ) → 9 < x → length (decimal_of x) ≡ length (decimal_of (x / 10)) + 1
length_more x h = ap length (decimal_more x h) ∙ length-append (decimal_of (x / 10)) ((48 + x % 10) ∷ [])

pub decimal_some : (x : ℕ) → 0 < length (decimal_of x)
decimal_some x =
    by_cases (dec_lt x 10) (λ h. omega (arith, length_small x h)) (λ h. omega (arith, length_more x (omega arith)))

-- a number below a power of ten has no more digits than the power has zeros
length_below : (d x : ℕ) → x < 10 ^ suc d → length (decimal_of x) ≤ suc d
length_below zero x h = omega (arith, length_small x h)
length_below (suc d) x h =
    by_cases (dec_lt x 10) (λ s. omega (arith, length_small x s))
    (λ s. omega (arith, length_more x (omega arith), length_below d (x / 10) (omega (arith, pow-suc 10 (suc d)))))

pub decimal_fits : (x : ℕ) → x < 2 ^ 64 → length (decimal_of x) ≤ 20
decimal_fits x h = length_below 19 x (omega arith)
