-- Laws of the class of a byte (`specs/Class`), and what they say of letters (theory's `Letters` and `Refusals`).
--   letter_in_class, drawn_by == the letter number and the refusal of a byte, by its class
--   class_says        : the letter of a byte, and the number that it draws in a text, are those of its class
-- Assumes nothing.
use mathlib.Core.Path.{◌≡◌, refl, sym, ◌∙◌, ap, subst}
use mathlib.Core.Logic.{◌⊎◌, inl, inr, ⊎_elim, by_cases}
use mathlib.Core.Bool.{Bool, true, false, cond, ◌&&◌}
use Prim.Native.Nat.{ℕ, ◌+◌, ◌-◌, ◌*◌, ◌≤◌, ◌<◌}
use native.Mathlib.Decide.{dec_le}
use native.Mathlib.Omega.{arith}
use lib.Dec.{eqb, ltb, leb}
use borrow.Author.Tests.{le-leb, lt-leb, eqb-true, ne_eqb, lt-ltb, le-ltb}
use Rattle.theory.specs.Letters.{letter_of, is_letter}
use Rattle.theory.specs.Refusals.{byte_refusal}
use Rattle.theory.proofs.LetterLaws.{letter_range}
use Rattle.theory.proofs.WordLaws.{by_test}
use Rattle.letters.specs.Class.{class_of}
use Rattle.letters.specs.declared.Class.{Class}
use Rattle.letters.specs.declared.Class.TheVariants.{Lower, Upper, LineEnd, Other}

-- a lower-case letter, a capital, neither
data Range (b : ℕ) : Type 0 where
  lower : 97 ≤ b → b ≤ 122 → Range b
  upper : 65 ≤ b → b ≤ 90 → Range b
  neither : (leb 97 b && leb b 122) ≡ false → (leb 65 b && leb b 90) ≡ false → Range b

-- a test of a range that does not hold
outside : (a e b : ℕ) → (b < a) ⊎ (e < b) → (leb a b && leb b e) ≡ false
outside a e b h = ⊎_elim (λ l. rw (lt-leb a b l)) (λ l. both l) h
  where
    both : e < b → (leb a b && leb b e) ≡ false
    both l = by_cases (dec_le a b) (λ m. rw (le-leb a b m, lt-leb b e l)) (λ m. rw (lt-leb a b (omega arith)))

range_of : (b : ℕ) → Range b
range_of b =
    by_cases (dec_le b 64) (λ h. neither (outside 97 122 b (inl (omega arith))) (outside 65 90 b (inl (omega arith))))
    (λ h. by_cases (dec_le b 90) (λ i. upper (omega arith) i)
    (λ i. by_cases (dec_le b 96) (λ j. neither (outside 97 122 b (inl (omega arith))) (outside 65 90 b (inr (omega arith))))
    (λ j. by_cases (dec_le b 122) (λ k. lower (omega arith) k)
    (λ k. neither (outside 97 122 b (inr (omega arith))) (outside 65 90 b (inr (omega arith)))))))

pub class_lower : (b : ℕ) → 97 ≤ b → b ≤ 122 → class_of b ≡ Lower (b - 96)
unfolding class_of
class_lower b h k = rw (le-leb 97 b h, le-leb b 122 k)

pub class_upper : (b : ℕ) → 65 ≤ b → b ≤ 90 → class_of b ≡ Upper (b - 64)
unfolding class_of
class_upper b h k = rw (outside 97 122 b (inl (omega arith)), le-leb 65 b h, le-leb b 90 k)

pub class_neither : (b : ℕ) → (leb 97 b && leb b 122) ≡ false → (leb 65 b && leb b 90) ≡ false → class_of b ≡ cond (eqb b 10) LineEnd Other
unfolding class_of
class_neither b h k = rw (h, k)

pub class_end : (b : ℕ) → b ≡ 10 → class_of b ≡ LineEnd
class_end b e = ap class_of e ∙ (unfold class_of in refl)

pub class_other : (b : ℕ) → (b ≡ 10 → ⊥) → (b < 65) ⊎ (((90 < b) × (b < 97)) ⊎ (122 < b)) → class_of b ≡ Other
class_other b e h =
    class_neither b (⊎_elim (λ i. outside 97 122 b (inl (omega arith))) (⊎_elim (λ i. outside 97 122 b (inl (omega arith))) (λ i. outside 97 122 b (inr i))) h)
    (⊎_elim (λ i. outside 65 90 b (inl i)) (⊎_elim (λ i. outside 65 90 b (inr i.0)) (λ i. outside 65 90 b (inr (omega arith)))) h)
    ∙ ap (λ t. cond t LineEnd Other) (ne_eqb b 10 e)

-- the letter number of a byte of a class
abbrev pub letter_in_class : Class → ℕ
letter_in_class (Lower g) = 2 * g - 2
letter_in_class (Upper g) = 2 * g - 1
letter_in_class LineEnd = 52
letter_in_class Other = 52

-- a letter's generator is at least 1
abbrev pub Counted : Class → Type 0
Counted (Lower g) = 1 ≤ g
Counted (Upper g) = 1 ≤ g
Counted LineEnd = Unit {0}
Counted Other = Unit {0}

-- the number that a byte of a class draws in a text over n generators
abbrev pub drawn_by : ℕ → Bool → Class → ℕ
drawn_by n lines (Lower g) = cond (leb g n) 0 4
drawn_by n lines (Upper g) = cond (leb g n) 0 4
drawn_by n lines LineEnd = cond lines 0 3
drawn_by n lines Other = 3

-- what a class says of its byte
pub record Says (n : ℕ) (lines : Bool) (b : ℕ) (k : Class) : Type 0 where
  pub letter : letter_of b ≡ letter_in_class k
  pub counted : Counted k
  pub draws : byte_refusal n lines b ≡ drawn_by n lines k

-- a letter draws 4 exactly if its generator is beyond n
letter_draws : (n : ℕ) (lines : Bool) (b g : ℕ) → letter_of b < 52 → (g ≤ n → letter_of b < 2 * n) → (n < g → 2 * n ≤ letter_of b) → byte_refusal n lines b ≡ cond (leb g n) 0 4
unfolding byte_refusal is_letter
letter_draws n lines b g h f e =
    by_cases (dec_le g n) (λ k. rw (lt-ltb (letter_of b) 52 h, le-leb g n k, lt-ltb (letter_of b) (2 * n) (f k)))
    (λ k. rw (lt-ltb (letter_of b) 52 h, lt-leb g n (omega arith), le-ltb (letter_of b) (2 * n) (e (omega arith))))

says_lower : (n : ℕ) (lines : Bool) (b : ℕ) → b < 256 → 97 ≤ b → b ≤ 122 → Says n lines b (Lower (b - 96))
says_lower n lines b s h k =
    let is : letter_of b ≡ 2 * (b - 97) = letter_range b s ∙ (rw (le-leb 97 b h, le-leb b 122 k)) in
    record {
      letter = omega arith;
      counted = omega arith;
      draws = letter_draws n lines b (b - 96) (omega arith) (λ i. omega arith) (λ i. omega arith);
    }

says_upper : (n : ℕ) (lines : Bool) (b : ℕ) → b < 256 → 65 ≤ b → b ≤ 90 → Says n lines b (Upper (b - 64))
says_upper n lines b s h k =
    let is : letter_of b ≡ 2 * (b - 65) + 1 =
    letter_range b s ∙ (rw (outside 97 122 b (inl (omega arith)), le-leb 65 b h, le-leb b 90 k)) in
    record {
      letter = omega arith;
      counted = omega arith;
      draws = letter_draws n lines b (b - 64) (omega arith) (λ i. omega arith) (λ i. omega arith);
    }

says_neither : (n : ℕ) (lines : Bool) (b : ℕ) → b < 256 → (leb 97 b && leb b 122) ≡ false → (leb 65 b && leb b 90) ≡ false → Says n lines b (cond (eqb b 10) LineEnd Other)
unfolding byte_refusal is_letter
says_neither n lines b s h k =
    by_test (eqb b 10) (λ e. rw e (record { letter = is; counted = tt; draws = rw (far, e) (ends lines) }))
    (λ e. rw e (record { letter = is; counted = tt; draws = rw (far, e) (never lines) }))
  where
    is : letter_of b ≡ 52
    is = letter_range b s ∙ (rw (h, k))

    far : ltb (letter_of b) 52 ≡ false
    far = le-ltb (letter_of b) 52 (omega (arith, is))

    ends : (l : Bool) → ◌≡◌ {A = ℕ} (cond (l && true) 0 3) (cond l 0 3)
    ends true = refl
    ends false = refl

    never : (l : Bool) → ◌≡◌ {A = ℕ} (cond (l && false) 0 3) 3
    never true = refl
    never false = refl

-- what the class of a byte says
pub class_says : (n : ℕ) (lines : Bool) (b : ℕ) → b < 256 → Says n lines b (class_of b)
class_says n lines b s = go (range_of b)
  where
    go : Range b → Says n lines b (class_of b)
    go (lower h k) = rw (class_lower b h k) (says_lower n lines b s h k)
    go (upper h k) = rw (class_upper b h k) (says_upper n lines b s h k)
    go (neither h k) = rw (class_neither b h k) (says_neither n lines b s h k)

-- the same of what `class_of` answered, once a `match` has told its variant
pub told : (n : ℕ) (lines : Bool) (b : ℕ) {r k : Class} → b < 256 → r ≡ class_of b → r ≡ k → Says n lines b k
told n lines b s e m = subst (Says n lines b) (sym e ∙ m) (class_says n lines b s)

-- a byte's class is LineEnd exactly if it is byte 10
pub end_class : (b : ℕ) → class_of b ≡ LineEnd → b ≡ 10
end_class b e = go (range_of b)
  where
    go : Range b → b ≡ 10
    go (lower h k) = let z : Lower (b - 96) ≡ LineEnd = sym (class_lower b h k) ∙ e in cc
    go (upper h k) = let z : Upper (b - 64) ≡ LineEnd = sym (class_upper b h k) ∙ e in cc
    go (neither h k) = by_test (eqb b 10) (λ t. eqb-true b 10 t) (λ t. let z : Other ≡ LineEnd = sym (class_neither b h k ∙ rw t) ∙ e in cc)
