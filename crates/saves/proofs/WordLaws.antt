-- The numbers of a list's words (theory's `word_numbers`), and the turns of their walks on plain values.
--   letter_fits                                : a letter's number is at most 52, so it takes one byte
--   read_taken, letters_next, letters_end      : the letters of a word from letter i on
--   length_room, letters_room, word_made       : a word's length and its letters, written
--   words_behind, words_over                   : the numbers of the words from place `at` on
--   words_sized, words_low, word_room, words_run : the turns of `words_size` and `write_words`
-- Assumes nothing.
use mathlib.Core.Path.{◌≡◌, refl, sym, ◌∙◌, ap, subst}
use mathlib.Core.Logic.{by_cases}
use mathlib.Core.Bool.{Bool, true, false, cond}
use mathlib.Core.List.{List, [], ◌∷◌, ◌++◌, map}
use Prim.Native.Nat.{ℕ, ◌+◌, ◌-◌, ◌*◌, ◌≤◌, ◌<◌}
use native.Mathlib.Decide.{ℕ_discrete}
use native.Mathlib.Omega.{arith}
use lib.ListN.{length, get_or, take, drop, length-append, length-drop, drop_of_length-le}
use lib.Seq.{length-take-le}
use borrow.Author.Tests.{eq-eqb, ne_eqb}
use Rattle.theory.specs.Files.{number_limit, number_bytes, numbers_bytes, word_numbers}
use Rattle.theory.specs.Letters.{letter_bytes, place_in, letter_of, word_length, first_word, words_of}
use Rattle.theory.specs.Refusals.{text_limit, is_unended}
use Rattle.theory.proofs.TextLaws.{word_length_le, length-first_word, words_count}
use Rattle.theory.proofs.StartLaws.{written_length, written_letters}
use Rattle.lists.specs.Counts.{next_start}
use Rattle.lists.proofs.CountTurn.{rest_of}
use Rattle.lists.proofs.StartTurn.{words_next}
use Rattle.numbers.specs.Splices.{WrittenAt}
use Rattle.numbers.proofs.NumberLaws.{length_small}
use Rattle.saves.specs.Runs.{word_run}
use Rattle.saves.proofs.RunLaws.{
  numbers_append,
  numbers_next,
  numbers_more,
  numbers_none,
  numbers_few,
  mapped_next,
  mapped_end,
  Sizing,
  Run,
  runs_room,
  runs_turn,
  front_room,
  back_room,
  both_written,
}

-- ── Letters ──

place_few : (bs : List ℕ) (x : ℕ) → place_in bs x ≤ length bs
unfolding place_in
place_few [] x = omega arith
place_few (a ∷ bs) x =
    by_cases (ℕ_discrete a x) (λ e. rw (eq-eqb a x e) (omega arith)) (λ e. rw (ne_eqb a x e) (omega (arith, place_few bs x)))

letter_few : (b : ℕ) → letter_of b ≤ 52
unfolding letter_of letter_bytes
letter_few b = place_few letter_bytes b

pub letter_fits : (b y : ℕ) → y ≡ letter_of b → y ≤ number_limit
letter_fits b y e = omega (arith, e, letter_few b)

letters_sized : (bs : List ℕ) → length (numbers_bytes (map letter_of bs)) ≡ length bs
letters_sized [] = numbers_none
letters_sized (b ∷ bs) =
    omega (arith, numbers_more (letter_of b) (map letter_of bs), length_small (letter_of b) (omega (arith, letter_few b)), letters_sized bs)

-- a word takes a byte for each letter
word_sized : (part : List ℕ) → length (numbers_bytes (first_word part)) ≡ word_length part
unfolding first_word
word_sized part = letters_sized (take (word_length part) part) ∙ length-take-le (word_length part) part (word_length_le part)

-- ── One word ──

module _ (part : List ℕ) {read : ℕ} (is : read ≡ word_length part) where
  -- the letters that are walked are the word's
  letters_taken : map letter_of (take read part) ≡ first_word part
  unfolding first_word
  letters_taken = ap (λ k. map letter_of (take k part)) is

  pub read_taken : read ≡ length (take read part)
  read_taken = sym (length-take-le read part (omega (arith, is, word_length_le part)))

  module _ (i : ℕ) where
    pub letters_next : {y : ℕ} → i < length (take read part) → y ≡ letter_of (get_or (take read part) i 0)
        → drop i (first_word part) ≡ y ∷ drop (i + 1) (first_word part)
    letters_next {y} h e = subst (λ w. drop i w ≡ y ∷ drop (i + 1) w) letters_taken (mapped_next letter_of (take read part) i h e)

    pub letters_end : length (take read part) ≤ i → drop i (first_word part) ≡ []
    letters_end h = subst (λ w. drop i w ≡ []) letters_taken (mapped_end letter_of (take read part) i h)

  run_starts : word_run (first_word part) ≡ read ∷ first_word part
  unfolding word_run
  run_starts = ap (λ k. k ∷ first_word part) (length-first_word part ∙ sym is)

  run_sized : {k : ℕ} → k ≡ length (number_bytes read) → length (numbers_bytes (word_run (first_word part))) ≡ k + read
  run_sized e =
      omega (arith, is, e, ap (λ l. length (numbers_bytes l)) run_starts, numbers_more read (first_word part), word_sized part)

  -- the length, then the letters
  run_bytes : number_bytes read ++ numbers_bytes (first_word part) ≡ numbers_bytes (word_run (first_word part))
  run_bytes = sym (ap numbers_bytes run_starts ∙ numbers_next read (first_word part))

  module _ (out : List ℕ) (at : ℕ) (room : at + length (numbers_bytes (word_run (first_word part))) ≤ length out) where
    pub length_room : at + length (number_bytes read) ≤ length out
    length_room = front_room at (number_bytes read) (numbers_bytes (first_word part)) (numbers_bytes (word_run (first_word part))) out run_bytes room

    module _ {p : ℕ} {mid : List ℕ} (w : WrittenAt at (number_bytes read) out p mid) where
      pub letters_room : p + length (numbers_bytes (first_word part)) ≤ length mid
      letters_room = back_room at (number_bytes read) (numbers_bytes (first_word part)) (numbers_bytes (word_run (first_word part))) out run_bytes room w

      pub word_made : {q : ℕ} {after : List ℕ} → WrittenAt p (numbers_bytes (first_word part)) mid q after
          → WrittenAt at (numbers_bytes (word_run (first_word part))) out q after
      word_made v =
          both_written at (number_bytes read) (numbers_bytes (first_word part)) (numbers_bytes (word_run (first_word part))) out run_bytes room w v

-- ── The words ──

numbers_count : (ws : List (List ℕ)) → length (word_numbers ws) ≡ length ws + written_length ws
unfolding word_numbers written_length
numbers_count [] = refl
numbers_count (w ∷ ws) = omega (arith, length-append w (word_numbers ws), numbers_count ws)

-- at most one number a byte, and one for a last word that is not ended
list_count : (list : List ℕ) → length (word_numbers (words_of list)) ≤ length list + 1
list_count list =
    omega (arith, numbers_count (words_of list), written_letters list, words_count list, at_most (is_unended list))
  where
    at_most : (b : Bool) → cond b 1 0 ≤ 1
    at_most true = omega arith
    at_most false = omega arith

pub words_few : (list : List ℕ) → length (words_of list) ≤ length list + 1
words_few list = omega (arith, numbers_count (words_of list), list_count list)

pub size_few : (list : List ℕ) → length (numbers_bytes (word_numbers (words_of list))) ≤ 5 * (length list + 1)
size_few list = omega (arith, numbers_few (word_numbers (words_of list)), list_count list)

pub words_over : (list : List ℕ) (at : ℕ) → length list ≤ at → word_numbers (words_of (drop at list)) ≡ []
unfolding words_of word_numbers
words_over list at h = ap (λ l. word_numbers (words_of l)) (drop_of_length-le list h)

-- the part that is handed over is the rest of the list: it is no longer
pub part_short : (list : List ℕ) (at : ℕ) → length list ≤ text_limit → length (take (length list - at) (drop at list)) ≤ text_limit
part_short list at h = rw (rest_of list at) (omega (arith, length-drop at list))

pub read_short : (list : List ℕ) (at : ℕ) {read : ℕ} → read ≡ word_length (take (length list - at) (drop at list)) → read ≤ length list
read_short list at e = omega (arith, e ∙ ap word_length (rest_of list at), word_length_le (drop at list), length-drop at list)

module _ (list : List ℕ) {at next : ℕ} (h : at < length list) (to : next ≡ next_start list at) where
  -- the numbers of the word that starts at `at`, then those of the words behind it
  words_behind : word_numbers (words_of (drop at list))
      ≡ word_run (first_word (take (length list - at) (drop at list))) ++ word_numbers (words_of (drop next list))
  unfolding word_numbers word_run
  words_behind =
      ap word_numbers (words_next list at next h to)
      ∙ ap (λ d. word_run (first_word d) ++ word_numbers (words_of (drop next list))) (sym (rest_of list at))

  module _ {xs : List ℕ} {size read k : ℕ} (s : Sizing xs (word_numbers (words_of (drop at list))) size)
      (is : read ≡ word_length (take (length list - at) (drop at list))) (e : k ≡ length (number_bytes read)) where
    whole : size + ((k + read) + length (numbers_bytes (word_numbers (words_of (drop next list))))) ≡ length (numbers_bytes xs)
    whole =
        omega (
          arith,
          s.counted,
          ap (λ l. length (numbers_bytes l)) words_behind,
          ap length (numbers_append (word_run (first_word (take (length list - at) (drop at list)))) (word_numbers (words_of (drop next list)))),
          length-append (numbers_bytes (word_run (first_word (take (length list - at) (drop at list))))) (numbers_bytes (word_numbers (words_of (drop next list)))),
          run_sized (take (length list - at) (drop at list)) is e,
        )

    pub words_low : size + (k + read) ≤ length (numbers_bytes xs)
    words_low = omega (arith, whole)

    pub words_sized : Sizing xs (word_numbers (words_of (drop next list))) (size + (k + read))
    words_sized = record { counted = omega (arith, whole) }

  module _ {xs : List ℕ} {place : ℕ} {old out : List ℕ} {p : ℕ} (r : Run xs (word_numbers (words_of (drop at list))) place old out p) where
    pub word_room : p + length (numbers_bytes (word_run (first_word (take (length list - at) (drop at list))))) ≤ length out
    word_room =
        runs_room r (word_run (first_word (take (length list - at) (drop at list)))) (word_numbers (words_of (drop next list))) words_behind

    pub words_run : {q : ℕ} {after : List ℕ} → WrittenAt p (numbers_bytes (word_run (first_word (take (length list - at) (drop at list))))) out q after
        → Run xs (word_numbers (words_of (drop next list))) place old after q
    words_run w =
        runs_turn r (word_run (first_word (take (length list - at) (drop at list)))) (word_numbers (words_of (drop next list))) words_behind w
