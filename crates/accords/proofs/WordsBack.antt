-- Words of a list, written as numbers and read back (theory's `word_numbers`; list_files' `words_at`, `list_in`).
--   words_read                : words written one behind the other are read as those words
--   WordsStand, words_written : words that were read are written there, and then what stands behind them
--   list_read                 : a list that is written is read
--   ListStands, list_written  : a list that was read is written there, and the file ends behind it
-- Assumes nothing.
use mathlib.Core.Path.{◌≡◌, refl, sym, ◌∙◌, ap, subst}
use mathlib.Core.Bool.{Bool, true, false, cond, true≢false}
use mathlib.Core.Option.{Option, none, some}
use mathlib.Core.List.{List, [], ◌∷◌, ◌++◌, map, append_assoc, append-nil}
use Prim.Native.Nat.{ℕ, zero, suc, ◌+◌, ◌*◌, ◌≤◌}
use native.Mathlib.Omega.{arith}
use lib.Dec.{ltb}
use lib.ListN.{length, drop, length-append, length-map, length-drop, drop_of_length-le}
use borrow.Author.Tests.{le-ltb, ltb-false}
use Rattle.theory.specs.Files.{number_limit, number_bytes, numbers_bytes, word_numbers}
use Rattle.theory.specs.Letters.{byte_of, line_end}
use Rattle.theory.specs.Refusals.{Refusal as FirstCause, text_limit}
use Rattle.theory.specs.Texts.{list_text}
use Rattle.theory.proofs.ListTexts.{LettersBelow, WordsBelow}
use Rattle.numbers.proofs.Numbers.{AllFit}
use Rattle.saves.proofs.RunLaws.{numbers_append}
use Rattle.runs.specs.Runs.{Run, broken, whole, number_at, behind, numbers_at}
use Rattle.runs.proofs.BackLaws.{bytes_left, number_read, number_left, number_written, numbers_read, numbers_written}
use Rattle.list_files.specs.ListFiles.{Words, stopped, read, on_words, letters_on, word_on, words_at, refused, listed, words_in, count_in, list_in}

-- ── The numbers of words ──

-- letters below 52 are numbers
letters_fit : (k : ℕ) (w : List ℕ) → k ≤ 52 → LettersBelow k w → AllFit w
letters_fit k [] h b = tt
letters_fit k (y ∷ w) h b = (omega (arith, h, b.0), letters_fit k w h b.1)

-- a word's numbers stand before those of the others
word_bytes : (w : List ℕ) (ws : List (List ℕ)) (rest : List ℕ)
    → numbers_bytes (word_numbers (w ∷ ws)) ++ rest ≡ number_bytes (length w) ++ (numbers_bytes w ++ (numbers_bytes (word_numbers ws) ++ rest))
unfolding numbers_bytes word_numbers
word_bytes w ws rest =
    ap (λ l. (number_bytes (length w) ++ l) ++ rest) (numbers_append w (word_numbers ws))
    ∙ append_assoc (number_bytes (length w)) (numbers_bytes w ++ numbers_bytes (word_numbers ws)) rest
    ∙ ap (λ l. number_bytes (length w) ++ l) (append_assoc (numbers_bytes w) (numbers_bytes (word_numbers ws)) rest)

text_next : (w : List ℕ) (ws : List (List ℕ)) → length (list_text (w ∷ ws)) ≡ length w + suc (length (list_text ws))
unfolding list_text
text_next w ws = length-append (map byte_of w) (line_end ∷ list_text ws) ∙ ap (λ k. k + suc (length (list_text ws))) (length-map w byte_of)

-- there are no more words than bytes of their text
pub words_few : (ws : List (List ℕ)) → length ws ≤ length (list_text ws)
unfolding list_text
words_few [] = omega arith
words_few (w ∷ ws) = omega (arith, text_next w ws, words_few ws)

pub words_read : (n : ℕ) (file rest : List ℕ) (p : ℕ) (ws : List (List ℕ)) → n ≤ 26 → WordsBelow (2 * n) ws → length (list_text ws) ≤ number_limit
    → drop p file ≡ numbers_bytes (word_numbers ws) ++ rest → words_at n file p (length ws) ≡ read ws (p + length (numbers_bytes (word_numbers ws)))
unfolding words_at word_numbers numbers_bytes behind
words_read n file rest p [] m b h e = ap (read []) (more p)
  where
    more : (p : ℕ) → p ≡ p + 0
    more p = omega arith
words_read n file rest p (w ∷ ws) m b h e =
    ap (λ o. word_on n file p o (λ q. words_at n file q (length ws))) (number_read file behind_length p (length w) (omega (arith, h, text_next w ws)) here)
    ∙ ap (λ r. letters_on r (λ q. words_at n file q (length ws)))
    (numbers_read (2 * n) file (numbers_bytes (word_numbers ws) ++ rest) (behind p (length w)) w (letters_fit (2 * n) w (omega arith) b.0) b.0 letters)
    ∙ ap (on_words w) (words_read n file rest letters_end ws m b.1 (omega (arith, h, text_next w ws)) others)
    ∙ ap (read (w ∷ ws)) place
  where
    behind_length : List ℕ
    behind_length = numbers_bytes w ++ (numbers_bytes (word_numbers ws) ++ rest)

    here : drop p file ≡ number_bytes (length w) ++ behind_length
    here = e ∙ word_bytes w ws rest

    letters : drop (behind p (length w)) file ≡ behind_length
    letters = number_left file behind_length p (length w) here

    letters_end : ℕ
    letters_end = behind p (length w) + length (numbers_bytes w)

    others : drop letters_end file ≡ numbers_bytes (word_numbers ws) ++ rest
    others = bytes_left file (numbers_bytes w) (numbers_bytes (word_numbers ws) ++ rest) (behind p (length w)) letters

    place : letters_end + length (numbers_bytes (word_numbers ws)) ≡ p + length (numbers_bytes (word_numbers (w ∷ ws)))
    place =
        omega (
          arith,
          ap length (numbers_append w (word_numbers ws)),
          length-append (numbers_bytes w) (numbers_bytes (word_numbers ws)),
          length-append (number_bytes (length w)) (numbers_bytes (w ++ word_numbers ws)),
        )

-- k words, their letters over n, stand from p up to q
pub record WordsStand (n : ℕ) (file : List ℕ) (p k : ℕ) (ws : List (List ℕ)) (q : ℕ) : Type 0 where
  pub many : length ws ≡ k
  pub below : WordsBelow (2 * n) ws
  pub bytes : drop p file ≡ numbers_bytes (word_numbers ws) ++ drop q file

-- words that stop were not read; words that were read are what they are
stopped_read : {r : FirstCause} {ws : List (List ℕ)} {q : ℕ} → stopped r ≡ read ws q → ⊥
stopped_read e = true≢false cc

read_one : {ws us : List (List ℕ)} {q z : ℕ} → read ws q ≡ read us z → (ws ≡ us) × (q ≡ z)
read_one e = (cc, cc)

pub words_written : (n : ℕ) (file : List ℕ) (p k : ℕ) (ws : List (List ℕ)) (q : ℕ) → words_at n file p k ≡ read ws q → WordsStand n file p k ws q
unfolding words_at word_numbers numbers_bytes
words_written n file p zero ws q e =
    let o = read_one e in
    subst (λ l. WordsStand n file p zero l q) o.0
    (subst (λ z. WordsStand n file p zero [] z) o.1 (record { many = refl; below = tt; bytes = refl }))
words_written n file p (suc k) ws q e = first (λ r us z f. words_written n file r k us z f) (number_at file p) refl e
  where
    Next : Type 0
    Next = (r : ℕ) (us : List (List ℕ)) (z : ℕ) → words_at n file r k ≡ read us z → WordsStand n file r k us z

    others : Next → (l : ℕ) → number_at file p ≡ some l → (w : List ℕ) (r : ℕ) → numbers_at (2 * n) file (behind p l) l ≡ whole w r
        → (v : Words) → words_at n file r k ≡ v → on_words w v ≡ read ws q → WordsStand n file p (suc k) ws q
    others next l a w r b (stopped c) d f = absurd (stopped_read f)
    others next l a w r b (read us z) d f =
        let o = read_one f in
        let x = number_written file p l a in
        let s = numbers_written (2 * n) file (behind p l) l w r b in
        let t = next r us z d in
        subst (λ m. WordsStand n file p (suc k) m q) o.0
        (subst (λ i. WordsStand n file p (suc k) (w ∷ us) i) o.1
        (record {
          many = ap suc t.many;
          below = (s.below, t.below);
          bytes =
              x.1 ∙ ap (λ m. number_bytes l ++ m) s.bytes
              ∙ ap (λ m. number_bytes l ++ (numbers_bytes w ++ m)) t.bytes
              ∙ ap (λ i. number_bytes i ++ (numbers_bytes w ++ (numbers_bytes (word_numbers us) ++ drop z file))) (sym s.many)
              ∙ sym (word_bytes w us (drop z file));
        }))

    letters : Next → (l : ℕ) → number_at file p ≡ some l → (run : Run) → numbers_at (2 * n) file (behind p l) l ≡ run
        → letters_on run (λ r. words_at n file r k) ≡ read ws q → WordsStand n file p (suc k) ws q
    letters next l a (broken c) b f = absurd (stopped_read f)
    letters next l a (whole w r) b f = others next l a w r b (words_at n file r k) refl f

    first : Next → (o : Option ℕ) → number_at file p ≡ o → word_on n file p o (λ r. words_at n file r k) ≡ read ws q → WordsStand n file p (suc k) ws q
    first next none a f = absurd (stopped_read f)
    first next (some l) a f = letters next l a (numbers_at (2 * n) file (behind p l) l) refl f

-- ── A list in a file ──

pub list_read : (n space : ℕ) (file : List ℕ) (p : ℕ) (ws : List (List ℕ)) → n ≤ 26 → WordsBelow (2 * n) ws → length (list_text ws) ≤ text_limit
    → length (list_text ws) ≤ space → drop p file ≡ numbers_bytes (length ws ∷ word_numbers ws) → list_in n space file p ≡ listed ws
unfolding list_in numbers_bytes
list_read n space file p ws m b h k e =
    ap (count_in n space file p) (number_read file (numbers_bytes (word_numbers ws)) p (length ws) (omega (arith, h, words_few ws)) e)
    ∙ ap (words_in space file)
    (words_read n file [] (behind p (length ws)) ws m b (omega (arith, h)) (left ∙ sym (append-nil (numbers_bytes (word_numbers ws)))))
    ∙ rw (le-ltb q (length file) end)
    (rw (le-ltb text_limit (length (list_text ws)) h) (rw (le-ltb space (length (list_text ws)) k) refl))
  where
    left : drop (behind p (length ws)) file ≡ numbers_bytes (word_numbers ws)
    left = number_left file (numbers_bytes (word_numbers ws)) p (length ws) e

    q : ℕ
    q = behind p (length ws) + length (numbers_bytes (word_numbers ws))

    end : length file ≤ q
    end = omega (arith, length-drop (behind p (length ws)) file, ap length left)

-- words stand from p to the file's end, and a lent text has room for theirs
pub record ListStands (n space : ℕ) (file : List ℕ) (p : ℕ) (ws : List (List ℕ)) : Type 0 where
  pub below : WordsBelow (2 * n) ws
  pub short : length (list_text ws) ≤ text_limit
  pub room : length (list_text ws) ≤ space
  pub bytes : drop p file ≡ numbers_bytes (length ws ∷ word_numbers ws)

refused_listed : {r : FirstCause} {ws : List (List ℕ)} → refused r ≡ listed ws → ⊥
refused_listed e = true≢false cc

listed_one : {ws us : List (List ℕ)} → listed ws ≡ listed us → ws ≡ us
listed_one e = cc

module _ (n space : ℕ) (file : List ℕ) (p : ℕ) (ws : List (List ℕ)) where
  module _ (k : ℕ) (a : number_at file p ≡ some k) (us : List (List ℕ)) (q : ℕ) (b : words_at n file (behind p k) k ≡ read us q) where
    by_room : ltb q (length file) ≡ false → ltb text_limit (length (list_text us)) ≡ false → (t : Bool) → ltb space (length (list_text us)) ≡ t
        → cond t (refused (record { number = 9; place = length (list_text us) })) (listed us) ≡ listed ws → ListStands n space file p ws
    unfolding numbers_bytes
    by_room c d true f e = absurd (refused_listed e)
    by_room c d false f e =
        let x = number_written file p k a in
        let s = words_written n file (behind p k) k us q b in
        let end : drop q file ≡ [] = drop_of_length-le file {i = q} (ltb-false q (length file) c) in
        subst (λ w. ListStands n space file p w) (listed_one e)
        (record {
          below = s.below;
          short = ltb-false text_limit (length (list_text us)) d;
          room = ltb-false space (length (list_text us)) f;
          bytes =
              x.1 ∙ ap (λ m. number_bytes k ++ m) (s.bytes ∙ ap (λ m. numbers_bytes (word_numbers us) ++ m) end ∙ append-nil (numbers_bytes (word_numbers us)))
              ∙ ap (λ i. number_bytes i ++ numbers_bytes (word_numbers us)) (sym s.many);
        })

    by_length : ltb q (length file) ≡ false → (t : Bool) → ltb text_limit (length (list_text us)) ≡ t
        → cond t (refused (record { number = 2; place = 0 }))
        (cond (ltb space (length (list_text us))) (refused (record { number = 9; place = length (list_text us) })) (listed us))
        ≡ listed ws → ListStands n space file p ws
    by_length c true d e = absurd (refused_listed e)
    by_length c false d e = by_room c d (ltb space (length (list_text us))) refl e

    by_end : (t : Bool) → ltb q (length file) ≡ t
        → cond t (refused (record { number = 12; place = q }))
        (cond (ltb text_limit (length (list_text us))) (refused (record { number = 2; place = 0 }))
        (cond (ltb space (length (list_text us))) (refused (record { number = 9; place = length (list_text us) })) (listed us)))
        ≡ listed ws → ListStands n space file p ws
    by_end true c e = absurd (refused_listed e)
    by_end false c e = by_length c (ltb text_limit (length (list_text us))) refl e

  by_words : (k : ℕ) → number_at file p ≡ some k → (v : Words) → words_at n file (behind p k) k ≡ v → words_in space file v ≡ listed ws
      → ListStands n space file p ws
  by_words k a (stopped r) b e = absurd (refused_listed e)
  by_words k a (read us q) b e = by_end k a us q b (ltb q (length file)) refl e

  by_count : (o : Option ℕ) → number_at file p ≡ o → count_in n space file p o ≡ listed ws → ListStands n space file p ws
  by_count none a e = absurd (refused_listed e)
  by_count (some k) a e = by_words k a (words_at n file (behind p k) k) refl e

  pub list_written : list_in n space file p ≡ listed ws → ListStands n space file p ws
  unfolding list_in
  list_written e = by_count (number_at file p) refl e
