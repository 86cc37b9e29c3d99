-- Two lists with one file are the same (theory's `list_file`).
--   split_one     : two runs of as many numbers, each before other bytes
--   list_file_one : two lists whose letters and lengths are numbers and that have one file are the same
--   saved_lists_one : two lists that are not refused and have one file have the same n and the same words
--   list_file_here_lem : abA, the empty word and b with n = 2 are 02 02 03 03 00 02 01 00 01 02; and the empty list is 02 02 00
-- Assumes nothing.
use mathlib.Core.Path.{◌≡◌, refl, sym, ◌∙◌, ap}
use mathlib.Core.Logic.{by_cases}
use mathlib.Core.Bool.{true}
use mathlib.Core.Option.{none}
use mathlib.Core.List.{List, [], ◌∷◌, ◌++◌, append_assoc}
use Prim.Native.Nat.{ℕ, suc, ◌≤◌}
use native.Mathlib.Decide.{ℕ_discrete}
use native.Mathlib.Omega.{arith}
use lib.ListN.{length}
use borrow.Author.Tests.{eq-eqb, ne_eqb}
use Rattle.theory.specs.Files.{number_limit, groups, number_bytes, numbers_bytes, word_numbers, list_file}
use Rattle.theory.specs.Letters.{letter_bytes, place_in, letter_of, line_end, on_first, words_of}
use Rattle.theory.specs.Refusals.{text_refusal}
use Rattle.theory.specs.Texts.{bytes_from, bytes}
use Rattle.numbers.proofs.Numbers.{number_one, AllFit}
use Rattle.saves.proofs.RunLaws.{numbers_append}
use Rattle.saves.proofs.WordLaws.{letter_fits}
use Rattle.saves.proofs.ListLaws.{savable_list, count_fits}

pub split_one : (xs ys l m : List ℕ) → AllFit xs → AllFit ys → length xs ≡ length ys → numbers_bytes xs ++ l ≡ numbers_bytes ys ++ m
    → (xs ≡ ys) × (l ≡ m)
unfolding numbers_bytes
split_one [] [] l m a b e f = (refl, f)
split_one [] (y ∷ ys) l m a b e f = absurd (omega (arith, e))
split_one (x ∷ xs) [] l m a b e f = absurd (omega (arith, e))
split_one (x ∷ xs) (y ∷ ys) l m a b e f =
    let h = number_one x y (numbers_bytes xs ++ l) (numbers_bytes ys ++ m) a.0 b.0
    (sym (append_assoc (number_bytes x) (numbers_bytes xs) l) ∙ f ∙ append_assoc (number_bytes y) (numbers_bytes ys) m) in
    let r = split_one xs ys l m a.1 b.1 (omega (arith, e)) h.1 in
    (ap (λ z. z ∷ xs) h.0 ∙ ap (λ k. y ∷ k) r.0, r.1)

-- every word's length and every letter is a number
abbrev pub WordsFit : List (List ℕ) → Type 0
WordsFit [] = Unit {0}
WordsFit (w ∷ ws) = (length w ≤ number_limit) × AllFit w × WordsFit ws

-- a word's numbers stand before those of the others
word_first : (w : List ℕ) (ws : List (List ℕ))
    → numbers_bytes (word_numbers (w ∷ ws)) ≡ number_bytes (length w) ++ (numbers_bytes w ++ numbers_bytes (word_numbers ws))
unfolding numbers_bytes word_numbers
word_first w ws = ap (λ l. number_bytes (length w) ++ l) (numbers_append w (word_numbers ws))

words_one : (ws us : List (List ℕ)) → WordsFit ws → WordsFit us → length ws ≡ length us
    → numbers_bytes (word_numbers ws) ≡ numbers_bytes (word_numbers us) → ws ≡ us
words_one [] [] a b e f = refl
words_one [] (u ∷ us) a b e f = absurd (omega (arith, e))
words_one (w ∷ ws) [] a b e f = absurd (omega (arith, e))
words_one (w ∷ ws) (u ∷ us) a b e f =
    let h = number_one (length w) (length u) (numbers_bytes w ++ numbers_bytes (word_numbers ws)) (numbers_bytes u ++ numbers_bytes (word_numbers us))
    a.0 b.0 (sym (word_first w ws) ∙ f ∙ word_first u us) in
    let r = split_one w u (numbers_bytes (word_numbers ws)) (numbers_bytes (word_numbers us)) a.1 b.1 h.0 h.1 in
    ap (λ z. z ∷ ws) r.0 ∙ ap (λ k. u ∷ k) (words_one ws us a.2 b.2 (omega (arith, e)) r.1)

pub list_file_one : (n m : ℕ) (ws us : List (List ℕ)) → n ≤ 26 → m ≤ 26 → length ws ≤ number_limit → length us ≤ number_limit
    → WordsFit ws → WordsFit us → list_file n ws ≡ list_file m us → (n ≡ m) × (ws ≡ us)
unfolding list_file numbers_bytes
list_file_one n m ws us hn hm lw lu fw fu f =
    let a = number_one 2 2 (numbers_bytes (n ∷ length ws ∷ word_numbers ws)) (numbers_bytes (m ∷ length us ∷ word_numbers us)) (omega arith) (omega arith) f in
    let b = number_one n m (numbers_bytes (length ws ∷ word_numbers ws)) (numbers_bytes (length us ∷ word_numbers us)) (omega arith) (omega arith) a.1 in
    let c = number_one (length ws) (length us) (numbers_bytes (word_numbers ws)) (numbers_bytes (word_numbers us)) lw lu b.1 in
    (b.0, words_one ws us fw fu c.0 c.1)

-- ── Lists that are not refused ──

-- every word has at most k letters, each a number
abbrev Within : ℕ → List (List ℕ) → Type 0
Within k [] = Unit {0}
Within k (w ∷ ws) = (length w ≤ k) × AllFit w × Within k ws

within_more : (k l : ℕ) (ws : List (List ℕ)) → k ≤ l → Within k ws → Within l ws
within_more k l [] h f = _
within_more k l (w ∷ ws) h f = (omega (arith, h, f.0), f.1, within_more k l ws h f.2)

first_within : (b k : ℕ) (ws : List (List ℕ)) → Within k ws → Within (suc k) (on_first (letter_of b) ws)
unfolding on_first
first_within b k [] f = (omega arith, (letter_fits b (letter_of b) refl, _), _)
first_within b k (w ∷ ws) f =
    (omega (arith, f.0), (letter_fits b (letter_of b) refl, f.1), within_more k (suc k) ws (omega arith) f.2)

words_within : (bs : List ℕ) → Within (length bs) (words_of bs)
unfolding words_of
words_within [] = _
words_within (b ∷ bs) =
    by_cases (ℕ_discrete b line_end)
    (λ e. rw (eq-eqb b line_end e) (omega arith, _, within_more (length bs) (suc (length bs)) (words_of bs) (omega arith) (words_within bs)))
    (λ e. rw (ne_eqb b line_end e) (first_within b (length bs) (words_of bs) (words_within bs)))

within_fit : (k : ℕ) (ws : List (List ℕ)) → k ≤ number_limit → Within k ws → WordsFit ws
within_fit k [] h f = _
within_fit k (w ∷ ws) h f = (omega (arith, h, f.0), f.1, within_fit k ws h f.2)

pub saved_lists_one : (n m : ℕ) (a b : List ℕ) → text_refusal n true a ≡ none → text_refusal m true b ≡ none
    → list_file n (words_of a) ≡ list_file m (words_of b) → (n ≡ m) × (words_of a ≡ words_of b)
saved_lists_one n m a b p q f =
    let x = savable_list n a p in
    let y = savable_list m b q in
    list_file_one n m (words_of a) (words_of b) x.0 y.0 (count_fits a x.1 refl) (count_fits b y.1 refl)
    (within_fit (length a) (words_of a) (omega (arith, x.1)) (words_within a))
    (within_fit (length b) (words_of b) (omega (arith, y.1)) (words_within b)) f

-- ── By computation ──

pub list_file_here_lem : (list_file 2 (words_of (bytes "abA\n\nb\n")) ≡ 2 ∷ 2 ∷ 3 ∷ 3 ∷ 0 ∷ 2 ∷ 1 ∷ 0 ∷ 1 ∷ 2 ∷ [])
    × (list_file 2 (words_of []) ≡ 2 ∷ 2 ∷ 0 ∷ [])
unfolding list_file word_numbers numbers_bytes number_bytes groups words_of on_first letter_of place_in letter_bytes bytes_from
list_file_here_lem = (refl, refl)
