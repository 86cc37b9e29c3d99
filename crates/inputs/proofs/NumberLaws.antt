-- Laws of the first line's number (`specs/Inputs`: alphabet_of): one and two digits; no other length is a number of 1 to 26.
--   one_digit, teens, twenties  : what a digit is told as is the number of the line
--   two_other, other_bytes      : lines of which none is a number
--   one_byte                    : a line of one byte is that byte
--   number_answer               : what is told, as it is answered
--   answer_number, answer_refused : an answer of the first line as `parse` gives it on
-- Assumes nothing.
use mathlib.Core.Path.{◌≡◌, refl, sym, ap}
use mathlib.Core.Bool.{Bool, true, false, cond, ◌&&◌, true≢false}
use mathlib.Core.List.{List, [], ◌∷◌}
use Prim.Native.Nat.{ℕ, zero, suc, ◌<◌}
use native.Mathlib.Omega.{arith}
use lib.Dec.{eqb}
use lib.ListN.{length, get_or}
use borrow.Author.Tests.{eqb-true, ne_eqb}
use Rattle.std.proofs.Common.{Option, None, Some, Result, Ok, Err}
use Rattle.std.specs.Option.{ok_or}
use Rattle.theory.proofs.LetterLaws.{below_all}
use Rattle.decimals.specs.Decimal.{digit_bytes, decimal_of}
use Rattle.refusals.specs.declared.Cause.TheVariants.{Alphabet}
use Rattle.refusals.specs.declared.Refusal.{Refusal}
use Rattle.refusals.specs.Given.{refusal_at}
use Rattle.inputs.specs.Inputs.{is_same, alphabet_of}
use Rattle.inputs.specs.Parsed.{told, digit_from, number_or_refusal, accepted_as}
use Rattle.inputs.specs.declared.Accepted.{Accepted}
use Rattle.inputs.specs.declared.InputError.{InputError}
use Rattle.inputs.specs.declared.InputError.TheVariants.{Refused}

-- ── What is told of a number ──

-- a test of it
abbrev tells : Option ℕ → ℕ → Bool
tells None zero = true
tells None (suc k) = false
tells (Some j) zero = false
tells (Some j) (suc k) = eqb j (suc k)

told_from : (o : Option ℕ) (k : ℕ) → tells o k ≡ true → o ≡ told k
told_from None zero e = refl
told_from None (suc k) e = absurd (true≢false (sym e))
told_from (Some j) zero e = absurd (true≢false (sym e))
told_from (Some j) (suc k) e = ap Some (eqb-true j (suc k) e)

-- ── The number of a line ──

pub one_digit : (b : ℕ) → b < 256 → digit_from 49 57 0 b ≡ told (alphabet_of 26 (b ∷ []))
unfolding digit_from alphabet_of is_same decimal_of digit_bytes
one_digit b h = told_from _ _ (below_all (λ b. tells (digit_from 49 57 0 b) (alphabet_of 26 (b ∷ []))) 256 refl b h)

pub teens : (b : ℕ) → b < 256 → digit_from 48 57 10 b ≡ told (alphabet_of 26 (49 ∷ b ∷ []))
unfolding digit_from alphabet_of is_same decimal_of digit_bytes
teens b h = told_from _ _ (below_all (λ b. tells (digit_from 48 57 10 b) (alphabet_of 26 (49 ∷ b ∷ []))) 256 refl b h)

pub twenties : (b : ℕ) → b < 256 → digit_from 48 54 20 b ≡ told (alphabet_of 26 (50 ∷ b ∷ []))
unfolding digit_from alphabet_of is_same decimal_of digit_bytes
twenties b h = told_from _ _ (below_all (λ b. tells (digit_from 48 54 20 b) (alphabet_of 26 (50 ∷ b ∷ []))) 256 refl b h)

-- two bytes of which the first is neither 1 nor 2
never : (t : Bool) (x y : ℕ) → y ≡ 0 → cond (t && false) x y ≡ 0
never true x y e = e
never false x y e = e

pub two_other : (a b : ℕ) → (a ≡ 49 → ⊥) → (a ≡ 50 → ⊥) → alphabet_of 26 (a ∷ b ∷ []) ≡ 0
unfolding alphabet_of is_same decimal_of digit_bytes
two_other a b e f = rw (ne_eqb a 49 e, ne_eqb a 50 f) (simp never)

-- ── The number of a line, by its length ──

pub one_byte : (l : List ℕ) → length l ≡ 1 → get_or l 0 0 < 256 → digit_from 49 57 0 (get_or l 0 0) ≡ told (alphabet_of 26 l)
one_byte [] e h = absurd (omega arith)
one_byte (a ∷ []) e h = one_digit a h
one_byte (a ∷ b ∷ l) e h = absurd (omega arith)

-- no other length is a number of 1 to 26
pub other_bytes : (l : List ℕ) → (length l ≡ 1 → ⊥) → (length l ≡ 2 → ⊥) → alphabet_of 26 l ≡ 0
unfolding alphabet_of is_same decimal_of digit_bytes
other_bytes [] e f = refl
other_bytes (a ∷ []) e f = absurd (e refl)
other_bytes (a ∷ b ∷ []) e f = absurd (f refl)
other_bytes (a ∷ b ∷ d ∷ l) e f = refl

-- ── The answer of a first line ──

pub number_answer : (k : ℕ) → ok_or (told k) (refusal_at Alphabet 0) ≡ number_or_refusal k
number_answer zero = refl
number_answer (suc k) = refl

pub answer_number : (k : ℕ) {n : ℕ} (list queries : ℕ) → Ok n ≡ number_or_refusal k
    → ◌≡◌ {A = Result Accepted InputError} (Ok (record { n = n; list = list; queries = queries })) (accepted_as k list queries)
answer_number zero list queries e = absurd (let z : ◌≡◌ {A = ℕ} 0 1 = cc in omega arith)
answer_number (suc k) {n} list queries e =
    let same : n ≡ suc k = cc in
    ap (λ j. Ok (record { n = j; list = list; queries = queries })) same

pub answer_refused : (k : ℕ) {r : Refusal} (list queries : ℕ) → Err r ≡ number_or_refusal k
    → ◌≡◌ {A = Result Accepted InputError} (Err (Refused r)) (accepted_as k list queries)
answer_refused zero {r} list queries e =
    let same : r ≡ refusal_at Alphabet 0 = cc in
    ap (λ x. Err (Refused x)) same
answer_refused (suc k) list queries e = absurd (let z : ◌≡◌ {A = ℕ} 0 1 = cc in omega arith)
