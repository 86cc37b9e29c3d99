-- Writing words that were read through, on plain values.
--   Letters     : `put_letters`: i is the text's place, the letters from p on are still to come
--   letters_some, letters_value, letters_turn, letters_done
--   word_line   : the line of one word, as `put_word` leaves it to `put_letters`
--   Head        : `put_words`: i words are written, those from p on are still to come, their text goes to place `to`
--   head_room, head_todo, head_turn, head_done
-- Assumes nothing.
use mathlib.Core.Path.{◌≡◌, refl, sym, ◌∙◌, ap, subst}
use mathlib.Core.List.{List, [], ◌∷◌, ◌++◌}
use Prim.Native.Nat.{ℕ, suc, ◌+◌, ◌-◌, ◌*◌, ◌≤◌, ◌<◌}
use native.Mathlib.Numerals.{add-one}
use native.Mathlib.Omega.{arith}
use lib.ListN.{length, drop, set, length-set, length-append}
use Rattle.theory.specs.Letters.{byte_of}
use Rattle.theory.specs.Texts.{list_text}
use Rattle.theory.specs.Files.{NumberAt}
use Rattle.numbers.specs.declared.Number.{Number}
use Rattle.numbers.specs.Reads.{Stands}
use Rattle.numbers.specs.Splices.{spliced}
use Rattle.numbers.proofs.SpliceLaws.{spliced_none, spliced_cons, spliced_append, length_spliced}
use Rattle.runs.specs.Runs.{Run, broken, whole, behind, numbers_at, Whole, values_of, place_of}
use Rattle.runs.proofs.Standing.{none_standing, standing_complete}
use Rattle.runs.proofs.RunLaws.{no_run, Split, split, run_sized}
use Rattle.list_files.specs.declared.Places.{Places}
use Rattle.list_files.specs.ListFiles.{Words, stopped, read, words_at}
use Rattle.list_files.specs.Parts.{AllRead, words_of, place_behind, line_of, PutAt}
use Rattle.list_files.proofs.WordLaws.{text_append, text_line, line_length, word_none, onto, glue, words_next, words_end, word_sized}
use Rattle.list_files.proofs.SkipTurn.{here, word_inside, word_is}

-- ── Letters ──

abbrev pub run : ℕ → List ℕ → ℕ → ℕ → Run
run n file p k = numbers_at (2 * n) file p k

pub record Letters (n : ℕ) (file : List ℕ) (at count to : ℕ) (text : List ℕ) (end p i : ℕ) (cells : List ℕ) : Type 0 where
  pub inside : p ≤ length file
  pub ends : end ≡ to + count
  pub few : i ≤ end
  pub room : end + 1 ≤ length text
  pub same : length cells ≡ length text
  pub todo : Whole (run n file p (end - i))
  pub place : place_of (run n file p (end - i)) ≡ place_of (run n file at count)
  pub written : spliced i (line_of (values_of (run n file p (end - i)))) cells ≡ spliced to (line_of (values_of (run n file at count))) text

module _ {n : ℕ} {file : List ℕ} {at count to : ℕ} {text : List ℕ} {end p i : ℕ} {cells : List ℕ} (h : Letters n file at count to text end p i cells) where
  -- a letter stands where one is to come
  pub letters_some : i < end → ((x : ℕ) → NumberAt file p x → ⊥) → ⊥
  letters_some l a = no_run (2 * n) file p (end - i) (omega arith) (none_standing file p a) h.todo

  module _ (l : i < end) (number : Number) (a : Stands file p number) where
    first : Split (2 * n) file p (end - i) (end - (i + 1)) number.value
    first = split (2 * n) file p (end - i) (end - (i + 1)) number.value one_less (standing_complete file p number.value a.0) h.todo
      where
        one_less : end - i ≡ suc (end - (i + 1))
        one_less = omega arith

    pub letters_value : number.value < 2 * n
    letters_value = first.below

    pub letters_turn : {b : ℕ} → b ≡ byte_of number.value → Letters n file at count to text end number.next (i + 1) (set cells i b)
    letters_turn {b} f =
        record {
          inside = (word_inside file p number a h.inside).1;
          ends = h.ends;
          few = omega arith;
          room = h.room;
          same = length-set cells i b ∙ h.same;
          todo = subst (λ q. Whole (run n file q (end - (i + 1)))) (sym q) first.rest;
          place = ap (λ q. place_of (run n file q (end - (i + 1)))) q ∙ sym first.place ∙ h.place;
          written =
              ap (λ k. spliced k (line_of (values_of (run n file number.next (end - (i + 1))))) (set cells i b)) (add-one i)
              ∙ spliced_cons i b (line_of (values_of (run n file number.next (end - (i + 1))))) cells (omega (arith, h.same, h.room))
              ∙ ap (λ z. spliced i (z ∷ line_of (values_of (run n file number.next (end - (i + 1))))) cells) f
              ∙ ap (λ q. spliced i (byte_of number.value ∷ line_of (values_of (run n file q (end - (i + 1))))) cells) q
              ∙ ap (λ v. spliced i (line_of v) cells) (sym first.values)
              ∙ h.written;
        }
      where
        q : number.next ≡ behind p number.value
        q = here file p number a

  pub letters_done : at ≤ length file → Whole (run n file at count) → end ≤ i → {r : Places} → r.from ≡ p → r.to ≡ end + 1
      → PutAt (place_of (run n file at count)) to (line_of (values_of (run n file at count))) text r (set cells end 10)
  unfolding numbers_at
  letters_done inside w l {r} f g =
      record {
        file_place = f ∙ sym (ap (λ k. place_of (run n file p k)) none_left) ∙ h.place;
        text_place =
            omega (arith, g, h.ends, h.few, l, line_length (values_of (run n file at count)), (run_sized (2 * n) file at count inside w).many);
        cells =
            ap (λ j. set cells j 10) (sym all)
            ∙ sym (spliced_none (suc i) (set cells i 10))
            ∙ spliced_cons i 10 [] cells (omega (arith, h.same, h.room, h.few))
            ∙ sym (ap (λ k. spliced i (line_of (values_of (run n file p k))) cells) none_left)
            ∙ h.written;
      }
    where
      none_left : end - i ≡ 0
      none_left = omega arith

      all : i ≡ end
      all = omega (arith, h.few)

-- ── One word ──

module _ (n : ℕ) (file : List ℕ) (p : ℕ) where
  -- a word that was read stands there
  pub word_there : ((x : ℕ) → NumberAt file p x → ⊥) → AllRead (words_at n file p 1) → ⊥
  word_there a w = subst AllRead (word_none n file p (none_standing file p a)) w

  module _ (number : Number) (a : Stands file p number) (w : AllRead (words_at n file p 1)) where
    word_line : (v : Run) → run n file number.next number.value ≡ v
        → Whole v × (place_behind (words_at n file p 1) ≡ place_of v) × (list_text (words_of (words_at n file p 1)) ≡ line_of (values_of v))
    word_line (broken c) f = absurd (subst AllRead (word_is n file p number a (broken c) f) w)
    word_line (whole u q) f =
        let i = word_is n file p number a (whole u q) f in
        (tt, ap place_behind i, ap (λ v. list_text (words_of v)) i ∙ text_line u)

    pub line_whole : Whole (run n file number.next number.value)
    line_whole = (word_line (run n file number.next number.value) refl).0

    pub line_room : (to size : ℕ) → p ≤ length file → to + length (list_text (words_of (words_at n file p 1))) ≤ size → to + number.value + 1 ≤ size
    line_room to size h k =
        omega (arith, k, ap length (word_line (run n file number.next number.value) refl).2, line_length (values_of (run n file number.next number.value)), (run_sized (2 * n) file number.next number.value (word_inside file p number a h).1 line_whole).many)

    pub line_put : {to : ℕ} {text : List ℕ} {z : Places} {after : List ℕ}
        → PutAt (place_of (run n file number.next number.value)) to (line_of (values_of (run n file number.next number.value))) text z after
        → PutAt (place_behind (words_at n file p 1)) to (list_text (words_of (words_at n file p 1))) text z after
    line_put {to} {text} {z} {after} k =
        let i = word_line (run n file number.next number.value) refl in
        record {
          file_place = k.file_place ∙ sym i.1;
          text_place = k.text_place ∙ ap (λ l. to + length l) (sym i.2);
          cells = k.cells ∙ ap (λ l. spliced to l text) (sym i.2);
        }

-- ── Words ──

-- the words behind the first
parted_on : (ws : List (List ℕ)) (u : Words) → AllRead (onto ws u) → AllRead u × (list_text (words_of (onto ws u)) ≡ list_text ws ++ list_text (words_of u))
parted_on ws (stopped r) a = absurd a
parted_on ws (read us q) a = (tt, text_append ws us)

parted : (v : Words) (rest : ℕ → Words) → AllRead (glue v rest)
    → AllRead v × AllRead (rest (place_behind v))
    × (list_text (words_of (glue v rest)) ≡ list_text (words_of v) ++ list_text (words_of (rest (place_behind v))))
parted (stopped r) rest a = absurd a
parted (read ws q) rest a = let h = parted_on ws (rest q) a in (tt, h.0, h.1)

-- the text of the words from p on
abbrev pub text_at : ℕ → List ℕ → ℕ → ℕ → List ℕ
text_at n file p k = list_text (words_of (words_at n file p k))

pub record Head (n : ℕ) (file : List ℕ) (at count : ℕ) (text : List ℕ) (p to i : ℕ) (cells : List ℕ) : Type 0 where
  pub inside : p ≤ length file
  pub same : length cells ≡ length text
  pub todo : AllRead (words_at n file p (count - i))
  pub room : to + length (text_at n file p (count - i)) ≤ length text
  pub written : spliced to (text_at n file p (count - i)) cells ≡ spliced 0 (text_at n file at count) text

module _ {n : ℕ} {file : List ℕ} {at count : ℕ} {text : List ℕ} {p to i : ℕ} {cells : List ℕ} (h : Head n file at count text p to i cells) (l : i < count) where
  is : words_at n file p (count - i) ≡ glue (words_at n file p 1) (λ q. words_at n file q (count - (i + 1)))
  is = words_next n file p (count - i) (count - (i + 1)) one_less
    where
      one_less : count - i ≡ suc (count - (i + 1))
      one_less = omega arith

  parts : AllRead (words_at n file p 1) × AllRead (words_at n file (place_behind (words_at n file p 1)) (count - (i + 1)))
      × (text_at n file p (count - i) ≡ text_at n file p 1 ++ text_at n file (place_behind (words_at n file p 1)) (count - (i + 1)))
  parts =
      let k = parted (words_at n file p 1) (λ q. words_at n file q (count - (i + 1))) (subst AllRead is h.todo) in
      (k.0, k.1, ap (λ v. list_text (words_of v)) is ∙ k.2)

  pub head_todo : AllRead (words_at n file p 1)
  head_todo = parts.0

  sizes : length (text_at n file p (count - i)) ≡ length (text_at n file p 1) + length (text_at n file (place_behind (words_at n file p 1)) (count - (i + 1)))
  sizes = ap length parts.2 ∙ length-append (text_at n file p 1) (text_at n file (place_behind (words_at n file p 1)) (count - (i + 1)))

  pub head_room : to + length (text_at n file p 1) ≤ length cells
  head_room = omega (arith, h.room, h.same, sizes)

  pub head_turn : {r : Places} {after : List ℕ} → PutAt (place_behind (words_at n file p 1)) to (text_at n file p 1) cells r after
      → Head n file at count text r.from r.to (i + 1) after
  head_turn {r} {after} k =
      record {
        inside = subst (λ q. q ≤ length file) (sym k.file_place) (word_sized file n p h.inside parts.0).inside;
        same = ap length k.cells ∙ length_spliced to (text_at n file p 1) cells head_room ∙ h.same;
        todo = subst (λ q. AllRead (words_at n file q (count - (i + 1)))) (sym k.file_place) parts.1;
        room = omega (arith, h.room, sizes, k.text_place, ap (λ q. length (text_at n file q (count - (i + 1)))) k.file_place);
        written =
            ap (λ q. spliced r.to (text_at n file q (count - (i + 1))) after) k.file_place
            ∙ ap (λ j. spliced j (text_at n file (place_behind (words_at n file p 1)) (count - (i + 1))) after) k.text_place
            ∙ ap (λ c. spliced (to + length (text_at n file p 1)) (text_at n file (place_behind (words_at n file p 1)) (count - (i + 1))) c) k.cells
            ∙ spliced_append to (text_at n file p 1) (text_at n file (place_behind (words_at n file p 1)) (count - (i + 1))) cells head_room
            ∙ ap (λ t. spliced to t cells) (sym parts.2)
            ∙ h.written;
      }

-- bytes from the first place on
front : (bytes text : List ℕ) → spliced 0 bytes text ≡ bytes ++ drop (length bytes) text
unfolding spliced
front bytes text = ap (λ k. bytes ++ drop k text) nothing
  where
    nothing : 0 + length bytes ≡ length bytes
    nothing = omega arith

pub head_done : {n : ℕ} {file : List ℕ} {at count : ℕ} {text : List ℕ} {p to i : ℕ} {cells : List ℕ} → Head n file at count text p to i cells
    → count ≤ i → cells ≡ text_at n file at count ++ drop (length (text_at n file at count)) text
unfolding list_text
head_done {n} {file} {at} {count} {text} {p} {to} {i} {cells} h l =
    sym (spliced_none to cells)
    ∙ sym (ap (λ v. spliced to (list_text (words_of v)) cells) (words_end n file p (count - i) none_left))
    ∙ h.written
    ∙ front (text_at n file at count) text
  where
    none_left : count - i ≡ 0
    none_left = omega arith
