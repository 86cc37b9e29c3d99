-- The turns of `count_digits` on plain values: `n` counts the digits behind those of `rest`, and one more.
--   head_first, head_turn, head_done : before the first turn, after a turn, after the last
--   head_low                         : the count fits
-- Assumes nothing.
use mathlib.Core.Path.{◌≡◌}
use Prim.Native.Nat.{ℕ, ◌+◌, ◌/◌, ◌^◌, ◌≤◌, ◌<◌}
use native.Mathlib.Omega.{arith}
use lib.ListN.{length}
use Rattle.decimals.specs.Decimal.{decimal_of}
use Rattle.decimals.proofs.DecimalLaws.{length_small, length_more, decimal_some, decimal_fits}

pub record Head (x rest n : ℕ) : Type 0 where
  pub few : length (decimal_of x) ≤ 20
  pub counted : n + length (decimal_of rest) ≡ length (decimal_of x) + 1

pub head_first : (x n : ℕ) → x < 2 ^ 64 → n ≡ 1 → Head x x n
head_first x n h e = record { few = decimal_fits x h; counted = omega arith }

pub head_low : {x rest n : ℕ} → Head x rest n → n ≤ 20
head_low {x} {rest} h = omega (arith, decimal_some rest)

pub head_turn : {x rest n : ℕ} → Head x rest n → 9 < rest → Head x (rest / 10) (n + 1)
head_turn {x} {rest} h k = record { few = h.few; counted = omega (arith, length_more rest k) }

pub head_done : {x rest n : ℕ} → Head x rest n → rest < 10 → n ≡ length (decimal_of x)
head_done {x} {rest} h k = omega (arith, length_small rest k)
