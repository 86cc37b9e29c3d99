-- Laws of the letter order (`specs/Letters`): each rule of the table is one test that the checker computes over the whole table.
--   below_all    : a test that passes at each number below k, computed, holds of each
--   letter_range : the number of a byte's letter, by the ranges a to z, A to Z, others
--   letter_byte  : the letter of the byte of a letter; byte_letter the other way round
--   neighbours   : neighbours in the order are one letter in its two cases, so inverse letters
-- Assumes nothing.
use mathlib.Core.Path.{◌≡◌, refl, ◌∙◌, ap}
use mathlib.Core.Logic.{by_cases}
use mathlib.Core.Bool.{Bool, true, cond, ◌&&◌}
use mathlib.Core.List.{List, [], ◌∷◌}
use Prim.Native.Nat.{ℕ, zero, suc, ◌+◌, ◌-◌, ◌*◌, ◌%◌, ◌<◌}
use native.Mathlib.Decide.{ℕ_discrete}
use native.Mathlib.Omega.{arith}
use lib.Dec.{eqb, leb}
use lib.ListN.{length, get_or}
use borrow.Author.Tests.{eq-eqb, ne_eqb, eqb-true, ltb-true}
use Rattle.theory.specs.Words.{inv}
use Rattle.theory.specs.Letters.{letter_bytes, place_in, byte_of, letter_of, is_letter}
use Rattle.theory.proofs.RefusalLaws.{and_true}

-- the test passes at each number below k
abbrev pub all_below : (ℕ → Bool) → ℕ → Bool
all_below f zero = true
all_below f (suc k) = f k && all_below f k

pub below_all : (f : ℕ → Bool) (k : ℕ) → all_below f k ≡ true → (j : ℕ) → j < k → f j ≡ true
below_all f zero e j h = absurd (omega arith)
below_all f (suc k) e j h =
    let a = and_true (f k) (all_below f k) e in
    by_cases (ℕ_discrete j k) (λ p. ap f p ∙ a.0) (λ p. below_all f k a.1 j (omega arith))

-- the number of a byte's letter, by ranges
abbrev pub by_range : ℕ → ℕ
by_range b = cond (leb 97 b && leb b 122) (2 * (b - 97)) (cond (leb 65 b && leb b 90) (2 * (b - 65) + 1) 52)

pub letter_range : (b : ℕ) → b < 256 → letter_of b ≡ by_range b
unfolding letter_of place_in letter_bytes
letter_range b h = eqb-true (letter_of b) (by_range b) (below_all (λ b. eqb (letter_of b) (by_range b)) 256 refl b h)

pub letter_byte : (y : ℕ) → y < 52 → letter_of (byte_of y) ≡ y
unfolding letter_of byte_of place_in letter_bytes
letter_byte y h = eqb-true (letter_of (byte_of y)) y (below_all (λ y. eqb (letter_of (byte_of y)) y) 52 refl y h)

-- what stands at the place at which x stands is x
place_at_lem : (l : List ℕ) (x : ℕ) → place_in l x < length l → get_or l (place_in l x) 0 ≡ x
unfolding place_in
place_at_lem [] x h = absurd (omega arith)
place_at_lem (a ∷ l) x h =
    by_cases (ℕ_discrete a x) (λ e. rw (eq-eqb a x e) e) (λ e. rw (ne_eqb a x e) (place_at_lem l x (later e)))
  where
    later : (a ≡ x → ⊥) → place_in l x < length l
    later e = let k : cond (eqb a x) zero (suc (place_in l x)) < suc (length l) = h in omega (arith, rw (ne_eqb a x e) at k)

pub byte_letter : (b : ℕ) → is_letter b ≡ true → byte_of (letter_of b) ≡ b
unfolding byte_of letter_of is_letter letter_bytes
byte_letter b e = place_at_lem letter_bytes b (ltb-true (letter_of b) 52 e)

-- a lower-case letter's byte is 32 more than that of its inverse, a capital's 32 less
pub neighbours : (y : ℕ) → y < 52 → byte_of y + 32 * (y % 2) ≡ byte_of (inv y) + 32 * (inv y % 2)
unfolding byte_of letter_bytes inv
neighbours y h =
    eqb-true _ _ (below_all (λ y. eqb (byte_of y + 32 * (y % 2)) (byte_of (inv y) + 32 * (inv y % 2))) 52 refl y h)
