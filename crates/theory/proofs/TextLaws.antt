-- Laws of list texts (`specs/Letters`): where a word ends, the walk from word to word, the letters of a list.
--   word_pass, word_stop, word_end : the length of a word, a byte at a time
--   words_walk : the words of a text are its first word and the words behind its line end
--   letters_pass : the letters of a text, a byte at a time
-- Assumes nothing.
use mathlib.Core.Path.{◌≡◌, refl, ◌∙◌, ap, subst}
use mathlib.Core.Logic.{by_cases}
use mathlib.Core.Bool.{cond}
use mathlib.Core.List.{List, [], ◌∷◌, map}
use Prim.Native.Nat.{ℕ, zero, suc, ◌+◌, ◌-◌, ◌<◌, ◌≤◌}
use native.Mathlib.Decide.{ℕ_discrete}
use native.Mathlib.Omega.{arith}
use lib.ListN.{length, get_or, take, drop, length-map, drop_of_length-le}
use lib.Seq.{drop-cons, length-take-le}
use borrow.Author.Tests.{eq-eqb, ne_eqb, lt-ltb}
use Rattle.theory.specs.Letters.{letter_of, line_end, word_length, first_word, on_first, words_of, letters_in}
use Rattle.theory.specs.Refusals.{is_unended}

-- ── One word ──

length_pass : (b : ℕ) (bs : List ℕ) → (b ≡ line_end → ⊥) → word_length (b ∷ bs) ≡ suc (word_length bs)
unfolding word_length
length_pass b bs e = rw (ne_eqb b line_end e)

length_stop : (b : ℕ) (bs : List ℕ) → b ≡ line_end → word_length (b ∷ bs) ≡ 0
unfolding word_length
length_stop b bs e = rw (eq-eqb b line_end e)

-- a byte that is no line end makes the word one longer
pub word_pass : (text : List ℕ) (i : ℕ) → i < length text → (get_or text i 0 ≡ line_end → ⊥) → word_length (drop i text) ≡ suc (word_length (drop (suc i) text))
word_pass text i h e = ap word_length (drop-cons text i 0 h) ∙ length_pass (get_or text i 0) (drop (suc i) text) e

-- a line end ends it
pub word_stop : (text : List ℕ) (i : ℕ) → i < length text → get_or text i 0 ≡ line_end → word_length (drop i text) ≡ 0
word_stop text i h e = ap word_length (drop-cons text i 0 h) ∙ length_stop (get_or text i 0) (drop (suc i) text) e

-- so does the end of the text
pub word_end : (text : List ℕ) (i : ℕ) → length text ≤ i → word_length (drop i text) ≡ 0
unfolding word_length
word_end text i h = ap word_length (drop_of_length-le text h)

pub word_length_le : (text : List ℕ) → word_length text ≤ length text
unfolding word_length
word_length_le [] = omega arith
word_length_le (b ∷ bs) =
    by_cases (ℕ_discrete b line_end) (λ e. rw (eq-eqb b line_end e) (omega arith))
    (λ e. rw (ne_eqb b line_end e) (omega (arith, word_length_le bs)))

pub length-first_word : (text : List ℕ) → length (first_word text) ≡ word_length text
unfolding first_word
length-first_word text = length-map (take (word_length text) text) letter_of ∙ length-take-le (word_length text) text (word_length_le text)

-- ── The words of a text ──

first_pass : (b : ℕ) (bs : List ℕ) → (b ≡ line_end → ⊥) → first_word (b ∷ bs) ≡ letter_of b ∷ first_word bs
unfolding first_word
first_pass b bs e = ap (λ k. map letter_of (take k (b ∷ bs))) (length_pass b bs e)

first_stop : (b : ℕ) (bs : List ℕ) → b ≡ line_end → first_word (b ∷ bs) ≡ []
unfolding first_word
first_stop b bs e = ap (λ k. map letter_of (take k (b ∷ bs))) (length_stop b bs e)

-- the letters of the first word are those of the bytes
pub first_word_at : (text : List ℕ) (i : ℕ) → i < word_length text → get_or (first_word text) i 0 ≡ letter_of (get_or text i 0)
unfolding word_length
first_word_at [] i h = absurd (omega arith)
first_word_at (b ∷ bs) i h =
    by_cases (ℕ_discrete b line_end) (λ e. absurd (omega (arith, h, length_stop b bs e)))
    (λ e. ap (λ l. get_or l i 0) (first_pass b bs e) ∙ at i (subst (λ k. i < k) (length_pass b bs e) h) (first_word_at bs))
  where
    at : (i : ℕ) → i < suc (word_length bs) → ((j : ℕ) → j < word_length bs → get_or (first_word bs) j 0 ≡ letter_of (get_or bs j 0)) → get_or (letter_of b ∷ first_word bs) i 0 ≡ letter_of (get_or (b ∷ bs) i 0)
    at zero k f = refl
    at (suc i) k f = f i (omega arith)

-- a letter in front of the first word, by the walk behind it
on_first_lem : (y : ℕ) (l : List ℕ) → (0 < length l → words_of l ≡ first_word l ∷ words_of (drop (suc (word_length l)) l)) → on_first y (words_of l) ≡ (y ∷ first_word l) ∷ words_of (drop (suc (word_length l)) l)
unfolding on_first words_of first_word word_length
on_first_lem y [] w = refl
on_first_lem y (b ∷ bs) w = ap (on_first y) (w (omega arith))

-- a text that is not empty has its first word and then the words behind the line end of that word
pub words_walk : (text : List ℕ) → 0 < length text → words_of text ≡ first_word text ∷ words_of (drop (suc (word_length text)) text)
unfolding words_of
words_walk [] h = absurd (omega arith)
words_walk (b ∷ bs) h =
    by_cases (ℕ_discrete b line_end) (λ e. rw (eq-eqb b line_end e, first_stop b bs e, length_stop b bs e))
    (λ e. rw (ne_eqb b line_end e, first_pass b bs e, length_pass b bs e) (on_first_lem (letter_of b) bs (words_walk bs)))

-- ── Counts ──

-- a byte that is no line end is one letter more
pub letters_pass : (text : List ℕ) (i : ℕ) → i < length text → (get_or text i 0 ≡ line_end → ⊥) → letters_in (drop i text) ≡ suc (letters_in (drop (suc i) text))
unfolding letters_in
letters_pass text i h e = ap letters_in (drop-cons text i 0 h) ∙ (rw (ne_eqb (get_or text i 0) line_end e))

-- a line end is none
pub letters_stop : (text : List ℕ) (i : ℕ) → i < length text → get_or text i 0 ≡ line_end → letters_in (drop i text) ≡ letters_in (drop (suc i) text)
unfolding letters_in
letters_stop text i h e = ap letters_in (drop-cons text i 0 h) ∙ (rw (eq-eqb (get_or text i 0) line_end e))

pub letters_end : (text : List ℕ) (i : ℕ) → length text ≤ i → letters_in (drop i text) ≡ 0
unfolding letters_in
letters_end text i h = ap letters_in (drop_of_length-le text h)

pub letters_le : (text : List ℕ) → letters_in text ≤ length text
unfolding letters_in
letters_le [] = omega arith
letters_le (b ∷ bs) =
    by_cases (ℕ_discrete b line_end) (λ e. rw (eq-eqb b line_end e) (omega (arith, letters_le bs)))
    (λ e. rw (ne_eqb b line_end e) (omega (arith, letters_le bs)))

-- whether a text ends in a line end does not depend on what stands before its last byte
unended_cons : (b d : ℕ) (bs : List ℕ) → is_unended (b ∷ d ∷ bs) ≡ is_unended (d ∷ bs)
unfolding is_unended
unended_cons b d bs = rw (lt-ltb 0 (suc (suc (length bs))) (omega arith), lt-ltb 0 (suc (length bs)) (omega arith), minus (suc (length bs)), minus (length bs))
  where
    minus : (k : ℕ) → suc k - 1 ≡ k
    minus k = omega arith

first_count : (y : ℕ) (ws : List (List ℕ)) → 0 < length ws → length (on_first y ws) ≡ length ws
unfolding on_first
first_count y [] h = absurd (omega arith)
first_count y (w ∷ ws) h = refl

-- each byte is a letter or ends a word, but for the last word of a text that is not ended
pub words_count : (text : List ℕ) → length text + cond (is_unended text) 1 0 ≡ letters_in text + length (words_of text)
unfolding is_unended letters_in words_of on_first
words_count [] = refl
words_count (b ∷ []) =
    by_cases (ℕ_discrete b line_end) (λ e. rw (eq-eqb b line_end e)) (λ e. rw (ne_eqb b line_end e))
words_count (b ∷ (d ∷ bs)) =
    by_cases (ℕ_discrete b line_end)
    (λ e. ap (λ t. suc (suc (length bs)) + cond t 1 0) (unended_cons b d bs) ∙ rw (eq-eqb b line_end e) (omega (arith, words_count (d ∷ bs))))
    (λ e. ap (λ t. suc (suc (length bs)) + cond t 1 0) (unended_cons b d bs) ∙ rw (ne_eqb b line_end e) (omega (arith, words_count (d ∷ bs), first_count (letter_of b) (words_of (d ∷ bs)) some_word)))
  where
    some_word : 0 < length (words_of (d ∷ bs))
    some_word = rw (words_walk (d ∷ bs) (omega arith)) (omega arith)

-- the letters of a word are letters of its text
pub word_letters : (text : List ℕ) → word_length text ≤ letters_in text
unfolding word_length letters_in
word_letters [] = omega arith
word_letters (b ∷ bs) =
    by_cases (ℕ_discrete b line_end) (λ e. rw (eq-eqb b line_end e) (omega arith))
    (λ e. rw (ne_eqb b line_end e) (omega (arith, word_letters bs)))

-- and those of a part are letters of the whole
pub letters_drop : (i : ℕ) (text : List ℕ) → letters_in (drop i text) ≤ letters_in text
unfolding letters_in
letters_drop zero text = omega arith
letters_drop (suc i) [] = omega arith
letters_drop (suc i) (b ∷ bs) =
    by_cases (ℕ_discrete b line_end) (λ e. rw (eq-eqb b line_end e) (letters_drop i bs))
    (λ e. rw (ne_eqb b line_end e) (omega (arith, letters_drop i bs)))
