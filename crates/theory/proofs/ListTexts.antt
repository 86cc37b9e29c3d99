-- Laws of words written as a list text (`specs/Texts`: list_text).
--   LettersBelow, WordsBelow : every letter of a word, of some words, is below k
--   words_of_text            : the words of the text are the words
--   text_fine, text_long     : over n generators it is not refused, but for its length
--   reads_below              : a word that can be read in a table has its letters alone
--   basis_below              : so has every basis word
-- Assumes nothing.
use mathlib.Core.Path.{◌≡◌, refl, sym, ◌∙◌, ap}
use mathlib.Core.Bool.{true, false}
use mathlib.Core.Option.{none, some}
use mathlib.Core.List.{List, [], ◌∷◌, ◌++◌, map}
use Prim.Native.Nat.{ℕ, suc, ◌*◌, ◌-◌, ◌≤◌, ◌<◌}
use native.Mathlib.Omega.{arith}
use lib.IntN.{pos}
use lib.ListN.{length, get_or, length-append}
use borrow.Author.Tests.{ne_eqb, lt-ltb, le-ltb}
use Rattle.theory.specs.Words.{named}
use Rattle.theory.specs.Letters.{letter_bytes, place_in, byte_of, letter_of, is_letter, line_end, usual, on_first, words_of}
use Rattle.theory.specs.Refusals.{text_limit, is_alphabet, byte_refusal, bytes_refusal, is_unended, text_refusal}
use Rattle.theory.specs.Tables.{cell, Leads, Reads}
use Rattle.theory.specs.Basis.{basis_of}
use Rattle.theory.specs.Texts.{list_text}
use Rattle.theory.proofs.RefusalLaws.{alphabet_in, bytes_pass, too_long}
use Rattle.theory.proofs.LetterLaws.{letter_byte}
use Rattle.theory.proofs.TableLaws.{length_usual, get_or_usual, cell_bounded}
use Rattle.theory.proofs.PathLaws.{Setting}
use Rattle.theory.proofs.ExpressionLaws.{named_reads}

abbrev pub LettersBelow : ℕ → List ℕ → Type 0
LettersBelow k [] = Unit {0}
LettersBelow k (y ∷ w) = (y < k) × LettersBelow k w

abbrev pub WordsBelow : ℕ → List (List ℕ) → Type 0
WordsBelow k [] = Unit {0}
WordsBelow k (w ∷ ws) = LettersBelow k w × WordsBelow k ws

-- ── The words of the text ──

-- no letter's byte is the line end
letter_no_end : (y : ℕ) → y < 52 → byte_of y ≡ line_end → ⊥
unfolding byte_of letter_of place_in letter_bytes
letter_no_end y h e = omega (arith, h, sym (letter_byte y h) ∙ ap letter_of e)

-- a word's line, then a text
line_words : (k : ℕ) (w text : List ℕ) → k ≤ 52 → LettersBelow k w → words_of (map byte_of w ++ line_end ∷ text) ≡ w ∷ words_of text
unfolding words_of on_first
line_words k [] text h b = refl
line_words k (y ∷ w) text h b =
    rw (ne_eqb (byte_of y) line_end (letter_no_end y (omega (arith, b.0))), line_words k w text h b.1, letter_byte y (omega (arith, b.0)))

pub words_of_text : (k : ℕ) (ws : List (List ℕ)) → k ≤ 52 → WordsBelow k ws → words_of (list_text ws) ≡ ws
unfolding words_of list_text
words_of_text k [] h b = refl
words_of_text k (w ∷ ws) h b = line_words k w (list_text ws) h b.0 ∙ ap (λ l. w ∷ l) (words_of_text k ws h b.1)

-- ── What refuses it ──

letter_fine : (n y : ℕ) → n ≤ 26 → y < 2 * n → byte_refusal n true (byte_of y) ≡ 0
unfolding byte_refusal is_letter
letter_fine n y m h = let z : y < 52 = omega arith in rw (letter_byte y z, lt-ltb y 52 z, lt-ltb y (2 * n) h)

end_fine : (n : ℕ) → byte_refusal n true line_end ≡ 0
unfolding byte_refusal is_letter letter_of place_in letter_bytes
end_fine n = refl

-- a word's line draws nothing
line_fine : (n i : ℕ) (w text : List ℕ) → n ≤ 26 → LettersBelow (2 * n) w → ((j : ℕ) → bytes_refusal n true j text ≡ none)
    → bytes_refusal n true i (map byte_of w ++ line_end ∷ text) ≡ none
line_fine n i [] text m b f = bytes_pass n true i line_end text (end_fine n) ∙ f (suc i)
line_fine n i (y ∷ w) text m b f =
    bytes_pass n true i (byte_of y) (map byte_of w ++ line_end ∷ text) (letter_fine n y m b.0) ∙ line_fine n (suc i) w text m b.1 f

bytes_fine : (n i : ℕ) (ws : List (List ℕ)) → n ≤ 26 → WordsBelow (2 * n) ws → bytes_refusal n true i (list_text ws) ≡ none
unfolding list_text bytes_refusal
bytes_fine n i [] m b = refl
bytes_fine n i (w ∷ ws) m b = line_fine n i w (list_text ws) m b.0 (λ j. bytes_fine n j ws m b.1)

-- what stands before a text that has bytes does not change its end
end_behind : (b : ℕ) (text : List ℕ) → 0 < length text → is_unended (b ∷ text) ≡ is_unended text
unfolding is_unended
end_behind b [] h = absurd (omega arith)
end_behind b (d ∷ text) h =
    rw (lt-ltb 0 (suc (suc (length text))) (omega arith), lt-ltb 0 (suc (length text)) (omega arith), minus (suc (length text)), minus (length text))
  where
    minus : (k : ℕ) → suc k - 1 ≡ k
    minus k = omega arith

-- a line, then a text that is ended or empty
line_ended : (l text : List ℕ) → is_unended text ≡ false → is_unended (l ++ line_end ∷ text) ≡ false
unfolding is_unended
line_ended [] [] e = refl
line_ended [] (d ∷ text) e = end_behind line_end (d ∷ text) (omega arith) ∙ e
line_ended (b ∷ l) text e =
    end_behind b (l ++ line_end ∷ text) (omega (arith, length-append l (line_end ∷ text))) ∙ line_ended l text e

ended : (ws : List (List ℕ)) → is_unended (list_text ws) ≡ false
unfolding list_text is_unended
ended [] = refl
ended (w ∷ ws) = line_ended (map byte_of w) (list_text ws) (ended ws)

pub text_fine : (n : ℕ) (ws : List (List ℕ)) → is_alphabet n ≡ true → WordsBelow (2 * n) ws → length (list_text ws) ≤ text_limit
    → text_refusal n true (list_text ws) ≡ none
unfolding text_refusal
text_fine n ws a b h = rw (a, le-ltb text_limit (length (list_text ws)) h, bytes_fine n 0 ws (alphabet_in n a).1 b, ended ws)

pub text_long : (n : ℕ) (ws : List (List ℕ)) → is_alphabet n ≡ true → text_limit < length (list_text ws)
    → text_refusal n true (list_text ws) ≡ some (record { number = 2; place = 0 })
text_long n ws = too_long n true (list_text ws)

-- ── The words of a basis ──

pub reads_below : (n N : ℕ) (t : List ℕ) (v : ℕ) (w : List ℕ) (x : ℕ) → Reads (Leads (cell n N t)) v w x → LettersBelow (2 * n) w
reads_below n N t v [] x r = tt
reads_below n N t v (y ∷ w) x r = (below, reads_below n N t r.0 w x r.2)
  where
    below : y < 2 * n
    below =
        let s = (cell_bounded n N t v y (λ e. r.1.1 (sym r.1.0 ∙ e))).1 in
        let i : s.0 < 2 * n = omega (arith, s.1, length_usual n) in omega (arith, i, sym (get_or_usual n s.0 i) ∙ s.2)

-- words, each below k
words_below : (k : ℕ) (ws : List (List ℕ)) → ((i : ℕ) → i < length ws → LettersBelow k (get_or ws i [])) → WordsBelow k ws
words_below k [] f = tt
words_below k (w ∷ ws) f = (f 0 (omega arith), words_below k ws (λ i h. f (suc i) (omega arith)))

pub basis_below : (n N : ℕ) (t : List ℕ) → Setting (cell n N t) N (usual n) → WordsBelow (2 * n) (basis_of (cell n N t) N (usual n))
unfolding named
basis_below n N t S =
    words_below (2 * n) (basis_of (cell n N t) N (usual n))
    (λ i h. reads_below n N t 0 (get_or (basis_of (cell n N t) N (usual n)) i []) 0 (named_reads S (pos (suc i)) h).0)
