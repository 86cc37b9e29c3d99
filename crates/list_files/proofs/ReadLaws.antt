-- The answers of `read_words` and `read_list` (`specs/ListFiles`).
--   roomy, words_listed      : the words that `skip_words` passed, where they have room
--   read_missing, read_count : by what stands at the number of words
-- Assumes nothing.
use mathlib.Core.Path.{◌≡◌, refl, sym, ◌∙◌, ap, subst}
use mathlib.Core.Bool.{cond, true≢false}
use mathlib.Core.List.{List, ◌++◌}
use mathlib.Core.Logic.{by_cases}
use Prim.Native.Nat.{ℕ, ◌≤◌, ◌<◌}
use native.Mathlib.Decide.{dec_lt}
use native.Mathlib.Omega.{arith}
use lib.Dec.{ltb}
use lib.ListN.{length, drop}
use borrow.Author.Tests.{lt-ltb, le-ltb}
use Rattle.std.specs.Prelude.{⊤}
use Rattle.std.specs.declared.result.Result.{Result}
use Rattle.std.specs.declared.result.Result.TheVariants.{Ok, Err}
use Rattle.theory.specs.Texts.{list_text}
use Rattle.theory.specs.Refusals.{text_limit}
use Rattle.refusals.specs.declared.Cause.{Cause}
use Rattle.refusals.specs.declared.Refusal.{Refusal}
use Rattle.refusals.specs.Given.{refusal_at, unless_short}
use Rattle.numbers.specs.declared.Number.{Number}
use Rattle.numbers.specs.Reads.{Stands, ReadAt}
use Rattle.lists.specs.declared.TextSize.{TextSize}
use Rattle.runs.proofs.Standing.{none_standing, standing_complete}
use Rattle.list_files.specs.declared.Passed.{Passed}
use Rattle.list_files.specs.ListFiles.{
  Words,
  stopped,
  read,
  words_at,
  ListIn,
  refused,
  listed,
  words_in,
  count_in,
  list_in,
  read_for,
  text_for,
  ListOutcome,
}
use Rattle.list_files.specs.Parts.{passed_as, AllRead, words_of}
use Rattle.list_files.proofs.WordLaws.{words_sized}
use Rattle.list_files.proofs.SkipTurn.{here}

-- ── Words ──

-- a room that was not refused is enough
pub roomy : (cause : Cause) (needed room : ℕ) {u : ⊤} → Ok u ≡ unless_short cause needed room → needed ≤ room
roomy cause needed room e = by_cases (dec_lt room needed) (λ l. absurd (apart (e ∙ short l))) (λ l. omega arith)
  where
    short : room < needed → unless_short cause needed room ≡ Err (refusal_at cause needed)
    short l = rw (lt-ltb room needed l) refl

    apart : {u : ⊤} {r : Refusal} → Ok u ≡ Err r → ⊥
    apart e = true≢false cc

module _ (n : ℕ) (file : List ℕ) (at count : ℕ) (text : List ℕ) where
  abbrev v : Words
  v = words_at n file at count

  -- what stands there
  abbrev pub met : ListIn
  met = words_in (length text) file v

  module _ (s : Passed) (f : Ok s ≡ passed_as v) where
    -- the words that were passed
    record Behinds : Type 0 where
      words : List (List ℕ)
      are : v ≡ read words s.place
      size : length (list_text words) ≡ s.bytes

    behinds : Behinds
    behinds = go v refl
      where
        go : (u : Words) → v ≡ u → Behinds
        go (stopped c) i = absurd (apart (f ∙ ap passed_as i))
          where
            apart : {a : Refusal} {b : Passed} → Ok b ≡ Err a → ⊥
            apart e = true≢false cc
        go (read ws z) i =
            let k : s ≡ record { place = z; bytes = length (list_text ws) } = one (f ∙ ap passed_as i) in
            record { words = ws; are = i ∙ ap (λ (s : Passed). read ws s.place) (sym k); size = sym (ap (λ (s : Passed). s.bytes) k) }
          where
            one : {a b : Passed} → ◌≡◌ {A = Result Passed Refusal} (Ok a) (Ok b) → a ≡ b
            one e = cc

    is : met
        ≡ cond (ltb s.place (length file)) (refused (record { number = 12; place = s.place }))
        (cond (ltb text_limit s.bytes) (refused (record { number = 2; place = 0 }))
        (cond (ltb (length text) s.bytes) (refused (record { number = 9; place = s.bytes })) (listed behinds.words)))
    is =
        ap (words_in (length text) file) behinds.are
        ∙ ap (λ b. cond (ltb s.place (length file)) (refused (record { number = 12; place = s.place }))
        (cond (ltb text_limit b) (refused (record { number = 2; place = 0 }))
        (cond (ltb (length text) b) (refused (record { number = 9; place = b })) (listed behinds.words)))) behinds.size

    module _ (l : length file ≤ s.place) (k : s.bytes ≤ text_limit) (m : s.bytes ≤ length text) where
      pub words_read : AllRead v
      words_read = subst AllRead (sym behinds.are) tt

      listed_here : met ≡ listed behinds.words
      listed_here = is ∙ rw (le-ltb s.place (length file) l) (rw (le-ltb text_limit s.bytes k) (rw (le-ltb (length text) s.bytes m) refl))

      pub words_listed : {after : List ℕ} → at ≤ length file → after ≡ list_text (words_of v) ++ drop (length (list_text (words_of v))) text
          → (Ok (record { words = count; bytes = s.bytes }) ≡ read_for met) × (after ≡ text_for text met)
      words_listed {after} h e = (
        ap (λ k. Ok (record { words = k; bytes = s.bytes })) (sym (words_sized file n count at h words_read).many ∙ ap (λ u. length (words_of u)) behinds.are)
            ∙ ap (λ b. Ok (record { words = length behinds.words; bytes = b })) (sym behinds.size)
            ∙ sym (ap read_for listed_here),
        e ∙ ap (λ u. list_text (words_of u) ++ drop (length (list_text (words_of u))) text) behinds.are ∙ sym (ap (text_for text) listed_here),
      )

-- ── The number of words ──

module _ (n : ℕ) (file text : List ℕ) (p : ℕ) where
  pub read_missing : {r : Refusal} → ReadAt file p (Err r) → ListOutcome n file p text (Err r) text
  unfolding list_in
  read_missing a =
      let i = ap (count_in n (length text) file p) (none_standing file p a.1) in
      record { answer = ap Err a.0 ∙ sym (ap read_for i); cells = sym (ap (text_for text) i) }

  pub read_count : (number : Number) → Stands file p number → {q : Result TextSize Refusal} {after : List ℕ}
      → q ≡ read_for (words_in (length text) file (words_at n file number.next number.value))
      → after ≡ text_for text (words_in (length text) file (words_at n file number.next number.value))
      → ListOutcome n file p text q after
  unfolding list_in
  read_count number a f g =
      let i : list_in n (length text) file p ≡ words_in (length text) file (words_at n file number.next number.value) =
      ap (count_in n (length text) file p) (standing_complete file p number.value a.0)
      ∙ ap (λ q. words_in (length text) file (words_at n file q number.value)) (sym (here file p number a)) in
      record { answer = f ∙ sym (ap read_for i); cells = g ∙ sym (ap (text_for text) i) }
