-- The file of a list (theory's `list_file`): its head, then the numbers of its words.
--   savable_list                      : the sizes of a list that is not refused; count_fits : its words are few
--   list_sized                        : the bytes of the file
--   head_room, words_room, list_made  : head and words, written
-- Assumes nothing.
use mathlib.Core.Path.{◌≡◌, refl, sym, ◌∙◌, ap}
use mathlib.Core.Logic.{by_cases}
use mathlib.Core.Bool.{true}
use mathlib.Core.Option.{none}
use mathlib.Core.List.{List, [], ◌∷◌, ◌++◌}
use Prim.Native.Nat.{ℕ, ◌+◌, ◌≤◌}
use native.Mathlib.Decide.{dec_lt}
use native.Mathlib.Omega.{arith}
use lib.ListN.{length, length-append}
use Rattle.theory.specs.Files.{number_limit, numbers_bytes, word_numbers, list_file}
use Rattle.theory.specs.Letters.{words_of}
use Rattle.theory.specs.Refusals.{text_limit, text_refusal}
use Rattle.theory.proofs.RefusalLaws.{alphabet_in, refusal_none}
use Rattle.theory.proofs.TableRefusalLaws.{text_alphabet}
use Rattle.numbers.specs.Splices.{WrittenAt}
use Rattle.saves.specs.Runs.{SavableList}
use Rattle.saves.proofs.RunLaws.{numbers_append, front_room, back_room, both_written}
use Rattle.saves.proofs.WordLaws.{words_few}

pub savable_list : (n : ℕ) (list : List ℕ) → text_refusal n true list ≡ none → SavableList n (length list)
savable_list n list e = (
  (alphabet_in n (text_alphabet n true list e)).1,
  by_cases (dec_lt text_limit (length list)) (λ h. absurd (refusal_none n true list e 2 0 (refl, h))) (λ h. omega arith),
)

pub count_fits : (list : List ℕ) {count : ℕ} → length list ≤ text_limit → count ≡ length (words_of list) → count ≤ number_limit
count_fits list h e = omega (arith, e, words_few list)

module _ (n : ℕ) (list : List ℕ) {count : ℕ} (e : count ≡ length (words_of list)) where
  abbrev head : List ℕ
  head = numbers_bytes (2 ∷ n ∷ count ∷ [])

  abbrev words : List ℕ
  words = numbers_bytes (word_numbers (words_of list))

  list_numbers : head ++ words ≡ list_file n (words_of list)
  unfolding list_file
  list_numbers =
      sym (numbers_append (2 ∷ n ∷ count ∷ []) (word_numbers (words_of list)))
      ∙ ap (λ k. numbers_bytes (2 ∷ n ∷ k ∷ word_numbers (words_of list))) e

  pub list_sized : {a b : ℕ} → a ≡ length head → b ≡ length words → a + b ≡ length (list_file n (words_of list))
  list_sized p q = omega (arith, p, q, length-append head words, ap length list_numbers)

  module _ (out : List ℕ) (room : length (list_file n (words_of list)) ≤ length out) where
    pub head_room : length head ≤ length out
    head_room = omega (arith, front_room 0 head words (list_file n (words_of list)) out list_numbers (omega (arith, room)))

    module _ {at : ℕ} {mid : List ℕ} (a : WrittenAt 0 head out at mid) where
      pub words_room : at + length words ≤ length mid
      words_room = back_room 0 head words (list_file n (words_of list)) out list_numbers (omega (arith, room)) a

      pub list_made : {end : ℕ} {after : List ℕ} → WrittenAt at words mid end after → WrittenAt 0 (list_file n (words_of list)) out end after
      list_made b = both_written 0 head words (list_file n (words_of list)) out list_numbers (omega (arith, room)) a b
