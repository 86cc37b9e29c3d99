-- The counts, the walk and the shorter list on plain values.
-- Assumes nothing.
use mathlib.Core.Path.{◌≡◌, refl, sym, ◌∙◌, ap, subst}
use mathlib.Core.Bool.{Bool, true, false, cond}
use mathlib.Core.List.{List, []}
use Prim.Native.Nat.{ℕ, ◌+◌, ◌-◌, ◌≤◌, ◌<◌}
use native.Mathlib.Numerals.{add-one}
use native.Mathlib.Omega.{arith}
use lib.ListN.{length, get_or, take, drop, length-drop}
use lib.Seq.{take_all}
use borrow.Author.Tests.{le-leb, lt-leb}
use denote.Ref.{Bor}
use Rattle.theory.specs.Letters.{line_end, letters_in, word_length}
use Rattle.theory.specs.Refusals.{is_unended}
use Rattle.theory.proofs.TextLaws.{letters_pass, letters_stop, letters_end, letters_le, words_count, word_length_le}
use Rattle.lists.specs.Counts.{CountsOf, next_start}
use Rattle.lists.specs.Shorter.{is_good, which_of, Hands, HandedBack}
use Rattle.lists.specs.declared.Which.{Which}
use Rattle.lists.specs.declared.Which.TheVariants.{First, Second, Neither}

-- ── Letters ──

-- of i bytes `found` are letters
pub record Head (text : List ℕ) (found i : ℕ) : Type 0 where
  pub low : found ≤ i
  pub counted : found + letters_in (drop i text) ≡ letters_in text

module _ {text : List ℕ} where
  pub head_first : Head text 0 0
  head_first = record { low = omega arith; counted = omega arith }

  pub head_letter : {found i : ℕ} → Head text found i → i < length text → (get_or text i 0 ≡ line_end → ⊥) → Head text (found + 1) (i + 1)
  head_letter {found} {i} h l e =
      record { low = omega (arith, h.low); counted = rw (add-one i) (omega (arith, h.counted, letters_pass text i l e)) }

  pub head_line_end : {found i : ℕ} → Head text found i → i < length text → get_or text i 0 ≡ line_end → Head text found (i + 1)
  head_line_end {found} {i} h l e =
      record { low = omega (arith, h.low); counted = rw (add-one i) (omega (arith, h.counted, letters_stop text i l e)) }

  pub head_done : {found i : ℕ} → Head text found i → length text ≤ i → found ≡ letters_in text
  head_done {found} {i} h l = omega (arith, h.counted, letters_end text i l)

-- ── Words ──

-- the words, from the letters and whether the last word is ended
pub count_unended : (text : List ℕ) (l : ℕ) (u : Bool) → l ≡ letters_in text → u ≡ is_unended text → u ≡ true → CountsOf text (record { letters = l; words = length text - l + 1 })
count_unended text l u e g t = record { letters = e; words = omega (arith, e, letters_le text, words_count text, ap {B = ℕ} (λ b. cond b 1 0) (sym g ∙ t)) }

pub count_ended : (text : List ℕ) (l : ℕ) (u : Bool) → l ≡ letters_in text → u ≡ is_unended text → u ≡ false → CountsOf text (record { letters = l; words = length text - l })
count_ended text l u e g t = record { letters = e; words = omega (arith, e, letters_le text, words_count text, ap {B = ℕ} (λ b. cond b 1 0) (sym g ∙ t)) }

-- the part of a text from a place on
pub rest_of : (text : List ℕ) (at : ℕ) → take (length text - at) (drop at text) ≡ drop at text
rest_of text at = take_all (length text - at) (drop at text) (rw length-drop (omega arith))

pub next_inside : (text : List ℕ) (at read : ℕ) → read ≡ word_length (take (length text - at) (drop at text)) → at + read < length text → at + read + 1 ≡ next_start text at
unfolding next_start
next_inside text at read e h = omega (arith, e ∙ ap word_length (rest_of text at))

pub next_last : (text : List ℕ) (at read : ℕ) → read ≡ word_length (take (length text - at) (drop at text)) → length text ≤ at + read → length text ≡ next_start text at
unfolding next_start
next_last text at read e h = omega (arith, e ∙ ap word_length (rest_of text at))

-- a word does not pass the end of its text
pub next_fits : (text : List ℕ) (at read : ℕ) → at ≤ length text → read ≡ word_length (take (length text - at) (drop at text)) → at + read ≤ length text
next_fits text at read h e =
    omega (arith, e ∙ ap word_length (rest_of text at), word_length_le (drop at text), length-drop at text)

-- the walk goes on
pub next_further : (text : List ℕ) (at next : ℕ) → at < length text → next ≡ next_start text at → length text - next < length text - at
unfolding next_start
next_further text at next h e = omega arith

-- ── The shorter list ──

module _ (n : ℕ) (a b : Bor (List ℕ)) where
  -- what is handed back, once it is known which
  handed : (w : Which) (r : Bor (List ℕ)) → which_of n a.now b.now ≡ w → Hands w a b r → HandedBack n a b r
  handed w r e h = subst (λ w. Hands w a b r) (sym e) h

  pub first_shorter : {f s : Bool} {k l : ℕ} → f ≡ is_good n a.now → f ≡ true → s ≡ is_good n b.now → s ≡ true → k ≡ letters_in a.now → l ≡ letters_in b.now → k ≤ l → HandedBack n a b a
  unfolding which_of
  first_shorter f t s u k l h = handed First a (rw (sym f ∙ t, sym s ∙ u, le-leb (letters_in a.now) (letters_in b.now) (omega (arith, k, l, h)))) refl

  pub second_shorter : {f s : Bool} {k l : ℕ} → f ≡ is_good n a.now → f ≡ true → s ≡ is_good n b.now → s ≡ true → k ≡ letters_in a.now → l ≡ letters_in b.now → l < k → HandedBack n a b b
  unfolding which_of
  second_shorter f t s u k l h = handed Second b (rw (sym f ∙ t, sym s ∙ u, lt-leb (letters_in a.now) (letters_in b.now) (omega (arith, k, l, h)))) refl

  pub first_good : {f s : Bool} → f ≡ is_good n a.now → f ≡ true → s ≡ is_good n b.now → s ≡ false → HandedBack n a b a
  unfolding which_of
  first_good f t s u = handed First a (rw (sym f ∙ t, sym s ∙ u)) refl

  pub second_good : {f s : Bool} → f ≡ is_good n a.now → f ≡ false → s ≡ is_good n b.now → s ≡ true → HandedBack n a b b
  unfolding which_of
  second_good f t s u = handed Second b (rw (sym f ∙ t, sym s ∙ u)) refl

  pub none_good : {f s : Bool} (r : Bor (List ℕ)) → f ≡ is_good n a.now → f ≡ false → s ≡ is_good n b.now → s ≡ false → r.ref_ptr ≡ a.ref_ptr → r.now ≡ [] → HandedBack n a b r
  unfolding which_of
  none_good r f t s u p e = handed Neither r (rw (sym f ∙ t, sym s ∙ u)) (p, e)
