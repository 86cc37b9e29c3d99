-- Laws of a number's bytes (theory's `number_bytes`).
--   number_small, number_more : the bytes of a number, by those of a 128th of it
--   length_small, length_more : how many they are; number_some, number_fits : one to five
-- Assumes nothing.
use mathlib.Core.Path.{◌≡◌, sym, ◌∙◌, ap}
use mathlib.Core.Logic.{by_cases}
use mathlib.Core.List.{[], ◌∷◌}
use Prim.Native.Nat.{ℕ, zero, suc, ◌+◌, ◌/◌, ◌%◌, ◌^◌, ◌≤◌, ◌<◌}
use native.Mathlib.Decide.{dec_lt}
use native.Mathlib.Nat.{pow-suc}
use native.Mathlib.Omega.{arith}
use lib.ListN.{length}
use borrow.Author.Tests.{lt-ltb, le-ltb}
use Rattle.theory.specs.Files.{number_limit, groups, number_bytes}

-- ── Groups ──

pub groups_last : (d x : ℕ) → x < 128 → groups (suc d) x ≡ x ∷ []
unfolding groups
groups_last d x h = rw (lt-ltb x 128 h)

pub groups_next : (d x : ℕ) → 128 ≤ x → groups (suc d) x ≡ (x % 128 + 128) ∷ groups d (x / 128)
unfolding groups
groups_next d x h = rw (le-ltb x 128 h)

-- room for more groups than the number has changes nothing
enough : (d x : ℕ) → x < 128 ^ suc d → groups (suc d) x ≡ groups (suc (suc d)) x
enough zero x h = groups_last 0 x (omega arith) ∙ sym (groups_last 1 x (omega arith))
enough (suc d) x h =
    by_cases (dec_lt x 128) (λ s. groups_last (suc d) x s ∙ sym (groups_last (suc (suc d)) x s))
    (λ s. groups_next (suc d) x (omega arith)
    ∙ ap (λ l. (x % 128 + 128) ∷ l) (enough d (x / 128) (omega (arith, pow-suc 128 (suc d))))
    ∙ sym (groups_next (suc (suc d)) x (omega arith)))

-- ── The bytes of a number ──

pub number_small : (x : ℕ) → x < 128 → number_bytes x ≡ x ∷ []
unfolding number_bytes
number_small x h = groups_last 4 x h

pub number_more : (x : ℕ) → 128 ≤ x → x ≤ number_limit → number_bytes x ≡ (x % 128 + 128) ∷ number_bytes (x / 128)
unfolding number_bytes
number_more x h k = groups_next 4 x h ∙ ap (λ l. (x % 128 + 128) ∷ l) (enough 3 (x / 128) (omega arith))

pub length_small : (x : ℕ) → x < 128 → length (number_bytes x) ≡ 1
length_small x h = ap length (number_small x h)

pub length_more : (x : ℕ) → 128 ≤ x → x ≤ number_limit → length (number_bytes x) ≡ suc (length (number_bytes (x / 128)))
length_more x h k = ap length (number_more x h k)

groups_few : (d x : ℕ) → length (groups d x) ≤ d
unfolding groups
groups_few zero x = omega arith
groups_few (suc d) x =
    by_cases (dec_lt x 128) (λ s. omega (arith, ap length (groups_last d x s)))
    (λ s. omega (arith, ap length (groups_next d x (omega arith)), groups_few d (x / 128)))

pub number_fits : (x : ℕ) → length (number_bytes x) ≤ 5
unfolding number_bytes
number_fits x = groups_few 5 x

pub groups_some : (d x : ℕ) → 0 < length (groups (suc d) x)
groups_some d x =
    by_cases (dec_lt x 128) (λ s. omega (arith, ap length (groups_last d x s)))
    (λ s. omega (arith, ap length (groups_next d x (omega arith))))

pub number_some : (x : ℕ) → 0 < length (number_bytes x)
unfolding number_bytes
number_some x = groups_some 4 x

-- ── Counting them ──

pub record Head (x rest size : ℕ) : Type 0 where
  pub fits : rest ≤ number_limit
  pub counted : size + length (number_bytes rest) ≡ length (number_bytes x) + 1

pub head_first : (x size : ℕ) → x ≤ number_limit → size ≡ 1 → Head x x size
head_first x size h e = record { fits = h; counted = omega arith }

pub head_low : {x rest size : ℕ} → Head x rest size → size ≤ 5
head_low {x} {rest} h = omega (arith, number_some rest, number_fits x, h.counted)

pub head_turn : {x rest size : ℕ} → Head x rest size → 127 < rest → Head x (rest / 128) (size + 1)
head_turn {x} {rest} h k =
    record { fits = omega (arith, h.fits); counted = omega (arith, length_more rest (omega arith) h.fits, h.counted) }

pub head_done : {x rest size : ℕ} → Head x rest size → rest ≤ 127 → size ≡ length (number_bytes x)
head_done {x} {rest} h k = omega (arith, length_small rest (omega arith), h.counted)
