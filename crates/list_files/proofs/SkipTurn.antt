-- Reading through words, on plain values.
--   here, word_inside                      : the length of a word, and the place behind it
--   word_missing, word_broken, word_passed : the answers of `skip_word`
--   Head                                   : i words are passed; those from p on, and `size` bytes before their text, say what all say
--   head_stop, head_low, head_turn, head_done
-- Assumes nothing.
use mathlib.Core.Path.{◌≡◌, refl, sym, ◌∙◌, ap, subst}
use mathlib.Core.Bool.{true≢false}
use mathlib.Core.List.{List, []}
use Prim.Native.Nat.{ℕ, suc, ◌+◌, ◌-◌, ◌*◌, ◌≤◌, ◌<◌}
use native.Mathlib.Omega.{arith}
use lib.ListN.{length, length-append}
use Rattle.std.specs.declared.result.Result.{Result}
use Rattle.std.specs.declared.result.Result.TheVariants.{Ok, Err}
use Rattle.theory.specs.Texts.{list_text}
use Rattle.refusals.specs.declared.Refusal.{Refusal}
use Rattle.numbers.specs.declared.Number.{Number}
use Rattle.numbers.specs.Reads.{Stands, ReadAt}
use Rattle.runs.specs.Runs.{Run, broken, whole, behind, numbers_at, skipped_as, Whole}
use Rattle.runs.proofs.Standing.{none_standing, standing_complete, behind_inside}
use Rattle.runs.proofs.RunLaws.{Sized, run_sized}
use Rattle.list_files.specs.declared.Passed.{Passed}
use Rattle.list_files.specs.ListFiles.{Words, stopped, read, letters_on, words_at}
use Rattle.list_files.specs.Parts.{passed_as, AllRead}
use Rattle.list_files.proofs.WordLaws.{text_append, text_line, line_length, word_none, word_letters, onto, glue, words_next, words_end, Passing, word_sized}

-- ── One word ──

module _ (file : List ℕ) (p : ℕ) (number : Number) (a : Stands file p number) where
  pub here : number.next ≡ behind p number.value
  unfolding behind
  here = a.1

  pub word_inside : p ≤ length file → (p < number.next) × (number.next ≤ length file)
  word_inside h = subst (λ q. (p < q) × (q ≤ length file)) (sym here) (behind_inside file p number.value h a.0)

module _ (n : ℕ) (file : List ℕ) (p : ℕ) where
  pub word_missing : {r : Refusal} → ReadAt file p (Err r) → Err r ≡ passed_as (words_at n file p 1)
  word_missing a = ap Err a.0 ∙ sym (ap passed_as (word_none n file p (none_standing file p a.1)))

  module _ (number : Number) (a : Stands file p number) where
    abbrev pub letters : Run
    letters = numbers_at (2 * n) file number.next number.value

    pub word_is : (run : Run) → letters ≡ run → words_at n file p 1 ≡ letters_on run (λ q. read [] q)
    word_is run f =
        word_letters n file p number.value run (standing_complete file p number.value a.0)
        (ap (λ q. numbers_at (2 * n) file q number.value) (sym (here file p number a)) ∙ f)

    pub word_broken : {q : Refusal} → Err q ≡ skipped_as letters → Err q ≡ passed_as (words_at n file p 1)
    word_broken {q} f = go letters refl
      where
        go : (run : Run) → letters ≡ run → Err q ≡ passed_as (words_at n file p 1)
        go (broken c) i = ap Err (one (f ∙ ap skipped_as i)) ∙ sym (ap passed_as (word_is (broken c) i))
          where
            one : {a b : Refusal} → ◌≡◌ {A = Result ℕ Refusal} (Err a) (Err b) → a ≡ b
            one e = cc
        go (whole w z) i = absurd (apart (f ∙ ap skipped_as i))
          where
            apart : {a : Refusal} {b : ℕ} → Err a ≡ Ok b → ⊥
            apart e = true≢false cc

    pub word_passed : {q : ℕ} → p ≤ length file → Ok q ≡ skipped_as letters
        → Ok (record { place = q; bytes = number.value + 1 }) ≡ passed_as (words_at n file p 1)
    word_passed {q} h f = go letters refl
      where
        go : (run : Run) → letters ≡ run → Ok (record { place = q; bytes = number.value + 1 }) ≡ passed_as (words_at n file p 1)
        go (broken c) i = absurd (apart (f ∙ ap skipped_as i))
          where
            apart : {a : Refusal} {b : ℕ} → Ok b ≡ Err a → ⊥
            apart e = true≢false cc
        go (whole w z) i =
            let k : q ≡ z = one (f ∙ ap skipped_as i) in
            let m = (subst (λ r. Whole r → Sized file number.next number.value r) i (run_sized (2 * n) file number.next number.value (word_inside file p number a h).1) tt).many in
            ap (λ q. Ok (record { place = q; bytes = number.value + 1 })) k
            ∙ ap (λ b. Ok (record { place = z; bytes = b })) (sym (ap length (text_line w) ∙ line_length w ∙ ap (λ k. k + 1) m))
            ∙ sym (ap passed_as (word_is (whole w z) i))
          where
            one : {a b : ℕ} → ◌≡◌ {A = Result ℕ Refusal} (Ok a) (Ok b) → a ≡ b
            one e = cc

-- ── Words ──

-- so many bytes before the text
abbrev pub shifted : ℕ → Result Passed Refusal → Result Passed Refusal
shifted k (Err r) = Err r
shifted k (Ok s) = Ok (record { place = s.place; bytes = k + s.bytes })

shifted_on : (ws : List (List ℕ)) (k b : ℕ) (v : Words) → length (list_text ws) ≡ b
    → shifted k (passed_as (onto ws v)) ≡ shifted (k + b) (passed_as v)
shifted_on ws k b (stopped r) e = refl
shifted_on ws k b (read us q) e =
    ap (λ b. Ok (record { place = q; bytes = b })) (omega (arith, e, ap length (text_append ws us), length-append (list_text ws) (list_text us)))

pub record Head (n : ℕ) (file : List ℕ) (at count p size i : ℕ) : Type 0 where
  pub inside : p ≤ length file
  pub low : at + size ≤ p
  pub same : shifted size (passed_as (words_at n file p (count - i))) ≡ passed_as (words_at n file at count)

module _ {n : ℕ} {file : List ℕ} {at count p size i : ℕ} (h : Head n file at count p size i) where
  -- what one word says decides
  here_next : i < count → (v : Words) → words_at n file p 1 ≡ v
      → shifted size (passed_as (glue v (λ q. words_at n file q (count - (i + 1))))) ≡ passed_as (words_at n file at count)
  here_next l v e =
      ap (λ v. shifted size (passed_as (glue v (λ q. words_at n file q (count - (i + 1)))))) (sym e)
      ∙ sym (ap (λ v. shifted size (passed_as v)) (words_next n file p (count - i) (count - (i + 1)) (one_less l)))
      ∙ h.same
    where
      one_less : i < count → count - i ≡ suc (count - (i + 1))
      one_less l = omega arith

  pub head_stop : i < count → {q : Refusal} → Err q ≡ passed_as (words_at n file p 1) → Err q ≡ passed_as (words_at n file at count)
  head_stop l {q} f = go (words_at n file p 1) refl
    where
      go : (v : Words) → words_at n file p 1 ≡ v → Err q ≡ passed_as (words_at n file at count)
      go (stopped c) e = f ∙ ap passed_as e ∙ here_next l (stopped c) e
      go (read ws z) e = absurd (apart (f ∙ ap passed_as e))
        where
          apart : {a : Refusal} {b : Passed} → Err a ≡ Ok b → ⊥
          apart e = true≢false cc

  -- the word that was passed
  passed_word : {s : Passed} → Ok s ≡ passed_as (words_at n file p 1)
      → (ws : List (List ℕ)) × (words_at n file p 1 ≡ read ws s.place) × (length (list_text ws) ≡ s.bytes)
  passed_word {s} f = go (words_at n file p 1) refl
    where
      go : (v : Words) → words_at n file p 1 ≡ v → (ws : List (List ℕ)) × (words_at n file p 1 ≡ read ws s.place) × (length (list_text ws) ≡ s.bytes)
      go (stopped c) e = absurd (apart (f ∙ ap passed_as e))
        where
          apart : {a : Refusal} {b : Passed} → Ok b ≡ Err a → ⊥
          apart e = true≢false cc
      go (read ws z) e =
          let k : s ≡ record { place = z; bytes = length (list_text ws) } = one (f ∙ ap passed_as e) in
          (ws, e ∙ ap (λ (s : Passed). read ws s.place) (sym k), sym (ap (λ (s : Passed). s.bytes) k))
        where
          one : {a b : Passed} → ◌≡◌ {A = Result Passed Refusal} (Ok a) (Ok b) → a ≡ b
          one e = cc

  module _ (s : Passed) (f : Ok s ≡ passed_as (words_at n file p 1)) where
    line_fits : (p + s.bytes ≤ s.place) × (s.place ≤ length file)
    line_fits =
        let w = passed_word f in
        let m = subst (λ v. AllRead v → Passing file p 1 v) w.1 (word_sized file n p h.inside) tt in
        (omega (arith, m.low, w.2), m.inside)

    pub head_low : size + s.bytes ≤ length file
    head_low = omega (arith, h.low, line_fits.0, line_fits.1)

    pub head_turn : i < count → Head n file at count s.place (size + s.bytes) (i + 1)
    head_turn l =
        let w = passed_word f in
        record {
          inside = line_fits.1;
          low = omega (arith, h.low, line_fits.0);
          same = sym (shifted_on w.0 size s.bytes (words_at n file s.place (count - (i + 1))) w.2) ∙ here_next l (read w.0 s.place) w.1;
        }

  pub head_done : count ≤ i → Ok (record { place = p; bytes = size }) ≡ passed_as (words_at n file at count)
  unfolding list_text
  head_done l =
      ap (λ b. Ok (record { place = p; bytes = b })) nothing
      ∙ sym (ap (λ v. shifted size (passed_as v)) (words_end n file p (count - i) (none_left l)))
      ∙ h.same
    where
      none_left : count ≤ i → count - i ≡ 0
      none_left l = omega arith

      nothing : size ≡ size + 0
      nothing = omega arith
