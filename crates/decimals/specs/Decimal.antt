-- A number in decimal, as bytes: the most significant digit first, no leading zeros, '0' for 0.
--   digit_bytes d x == the digits of x, at most d of them: those of x / 10, then the last one; none for 0
--   decimal_of x    == x in decimal: no number has more digits than itself, so d is x
--   Decimal        <-> the size and the cells after `write_decimal`: the digits, then the cells that no digit took
-- Assumes nothing.
use Rattle.std.specs.Prelude.{◌≡◌, List, [], ◌∷◌, ◌++◌, ℕ, zero, suc, ◌+◌, ◌/◌, ◌%◌, length, drop}

unfoldable pub digit_bytes : ℕ → ℕ → List ℕ
digit_bytes zero x = []
digit_bytes (suc d) zero = []
digit_bytes (suc d) (suc y) = digit_bytes d (suc y / 10) ++ ((48 + suc y % 10) ∷ [])

unfoldable pub decimal_of : ℕ → List ℕ
decimal_of zero = 48 ∷ []
decimal_of (suc y) = digit_bytes (suc y) (suc y)

pub record Decimal (x : ℕ) (out : List ℕ) (r : ℕ) (after : List ℕ) : Type 0 where
  pub size : r ≡ length (decimal_of x)
  pub cells : after ≡ decimal_of x ++ drop (length (decimal_of x)) out
