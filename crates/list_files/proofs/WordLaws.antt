-- Words in a file (`specs/ListFiles`), one after the other.
--   word_first, word_letters : one word is its length and its letters
--   glue, words_next         : some words are the first, and those behind it
--   text_append, text_line   : the text of words, and of one
--   Passing, words_sized     : words that were read are as many as asked for; their text is no longer than they are, and they lie in the file
-- Assumes nothing.
use mathlib.Core.Path.{◌≡◌, refl, sym, ◌∙◌, ap, subst}
use mathlib.Core.Option.{Option, none, some}
use mathlib.Core.List.{List, [], ◌∷◌, ◌++◌, map, append_assoc}
use Prim.Native.Nat.{ℕ, zero, suc, ◌+◌, ◌*◌, ◌≤◌, ◌<◌}
use native.Mathlib.Omega.{arith}
use lib.ListN.{length, length-append, length-map}
use Rattle.theory.specs.Letters.{byte_of, line_end}
use Rattle.theory.specs.Texts.{list_text}
use Rattle.runs.specs.Runs.{Run, broken, whole, number_at, behind, numbers_at, Whole}
use Rattle.runs.proofs.Standing.{standing_sound, behind_inside}
use Rattle.runs.proofs.RunLaws.{Sized, run_sized}
use Rattle.list_files.specs.ListFiles.{Words, stopped, read, on_words, letters_on, word_on, words_at}
use Rattle.list_files.specs.Parts.{AllRead, words_of, place_behind, line_of}

-- ── Texts ──

pub text_append : (ws us : List (List ℕ)) → list_text (ws ++ us) ≡ list_text ws ++ list_text us
unfolding list_text
text_append [] us = refl
text_append (w ∷ ws) us =
    ap (λ l. map byte_of w ++ line_end ∷ l) (text_append ws us)
    ∙ sym (append_assoc (map byte_of w) (line_end ∷ list_text ws) (list_text us))

pub text_line : (w : List ℕ) → list_text (w ∷ []) ≡ line_of w
unfolding list_text
text_line w = refl

pub line_length : (w : List ℕ) → length (line_of w) ≡ length w + 1
line_length w = length-append (map byte_of w) (line_end ∷ []) ∙ ap (λ k. k + 1) (length-map w byte_of)

-- ── One word ──

pub word_none : (n : ℕ) (file : List ℕ) (p : ℕ) → number_at file p ≡ none → words_at n file p 1 ≡ stopped (record { number = 10; place = p })
unfolding words_at
word_none n file p e = ap (λ o. word_on n file p o (λ q. read [] q)) e

pub word_letters : (n : ℕ) (file : List ℕ) (p l : ℕ) (run : Run) → number_at file p ≡ some l → numbers_at (2 * n) file (behind p l) l ≡ run
    → words_at n file p 1 ≡ letters_on run (λ q. read [] q)
unfolding words_at
word_letters n file p l run e f =
    ap (λ o. word_on n file p o (λ q. read [] q)) e ∙ ap (λ r. letters_on r (λ q. read [] q)) f

-- ── The first, and those behind it ──

-- words in front of others
abbrev pub onto : List (List ℕ) → Words → Words
onto ws (stopped r) = stopped r
onto ws (read us q) = read (ws ++ us) q

abbrev pub glue : Words → (ℕ → Words) → Words
glue (stopped r) rest = stopped r
glue (read ws q) rest = onto ws (rest q)

onto_one : (w : List ℕ) (v : Words) → on_words w v ≡ onto (w ∷ []) v
onto_one w (stopped r) = refl
onto_one w (read us q) = refl

letters_glue : (run : Run) (rest : ℕ → Words) → letters_on run rest ≡ glue (letters_on run (λ q. read [] q)) rest
letters_glue (broken r) rest = refl
letters_glue (whole w q) rest = onto_one w (rest q)

word_glue : (n : ℕ) (file : List ℕ) (p : ℕ) (o : Option ℕ) (rest : ℕ → Words) → word_on n file p o rest ≡ glue (word_on n file p o (λ q. read [] q)) rest
word_glue n file p none rest = refl
word_glue n file p (some l) rest = letters_glue (numbers_at (2 * n) file (behind p l) l) rest

pub words_next : (n : ℕ) (file : List ℕ) (p k j : ℕ) → k ≡ suc j → words_at n file p k ≡ glue (words_at n file p 1) (λ q. words_at n file q j)
unfolding words_at
words_next n file p k j e = ap (words_at n file p) e ∙ word_glue n file p (number_at file p) (λ q. words_at n file q j)

pub words_end : (n : ℕ) (file : List ℕ) (p k : ℕ) → k ≡ 0 → words_at n file p k ≡ read [] p
unfolding words_at
words_end n file p k e = ap (words_at n file p) e

-- ── How many, and how long ──

-- of k words from p on, if they were read
pub record Passing (file : List ℕ) (p k : ℕ) (v : Words) : Type 0 where
  pub many : length (words_of v) ≡ k
  pub low : p + length (list_text (words_of v)) ≤ place_behind v
  pub inside : place_behind v ≤ length file

module _ (file : List ℕ) where
  letters_sized : (p b l : ℕ) (run : Run) → p < b → (Whole run → Sized file b l run) → AllRead (letters_on run (λ q. read [] q))
      → Passing file p 1 (letters_on run (λ q. read [] q))
  letters_sized p b l (broken r) h s a = absurd a
  letters_sized p b l (whole w q) h s a =
      record {
        many = refl;
        low = omega (arith, h, ap length (text_line w), line_length w, (s tt).many, (s tt).low);
        inside = (s tt).inside;
      }

  onto_sized : (p q k : ℕ) (ws : List (List ℕ)) (u : Words) → Passing file p 1 (read ws q) → (AllRead u → Passing file q k u)
      → AllRead (onto ws u) → Passing file p (suc k) (onto ws u)
  onto_sized p q k ws (stopped r) a b c = absurd c
  onto_sized p q k ws (read us z) a b c =
      record {
        many = length-append ws us ∙ omega (arith, a.many, (b tt).many);
        low = omega (arith, ap length (text_append ws us), length-append (list_text ws) (list_text us), a.low, (b tt).low);
        inside = (b tt).inside;
      }

  glue_sized : (p k : ℕ) (v : Words) (rest : ℕ → Words) → (AllRead v → Passing file p 1 v)
      → ((q : ℕ) → q ≤ length file → AllRead (rest q) → Passing file q k (rest q)) → AllRead (glue v rest) → Passing file p (suc k) (glue v rest)
  glue_sized p k (stopped r) rest a b c = absurd c
  glue_sized p k (read ws q) rest a b c = onto_sized p q k ws (rest q) (a tt) (b q (a tt).inside) c

  module _ (n : ℕ) where
    pub word_sized : (p : ℕ) → p ≤ length file → AllRead (words_at n file p 1) → Passing file p 1 (words_at n file p 1)
    word_sized p h a = go (number_at file p) refl
      where
        go : (o : Option ℕ) → number_at file p ≡ o → Passing file p 1 (words_at n file p 1)
        go none e = absurd (subst AllRead (word_none n file p e) a)
        go (some l) e =
            let b = behind_inside file p l h (standing_sound file p l e) in
            let f = word_letters n file p l (numbers_at (2 * n) file (behind p l) l) e refl in
            subst (Passing file p 1) (sym f)
            (letters_sized p (behind p l) l (numbers_at (2 * n) file (behind p l) l) b.0 (run_sized (2 * n) file (behind p l) l b.1) (subst AllRead f a))

    pub words_sized : (k p : ℕ) → p ≤ length file → AllRead (words_at n file p k) → Passing file p k (words_at n file p k)
    unfolding list_text
    words_sized zero p h a =
        subst (Passing file p 0) (sym (words_end n file p 0 refl)) (record { many = refl; low = omega arith; inside = h })
    words_sized (suc k) p h a =
        let e = words_next n file p (suc k) k refl in
        subst (Passing file p (suc k)) (sym e)
        (glue_sized p k (words_at n file p 1) (λ q. words_at n file q k) (word_sized p h) (λ q i b. words_sized k q i b) (subst AllRead e a))
