-- A word's length is what std's `position` of the first line end says.
--   word_place : the number of bytes before the first line end, or all of them
--   word_found : so it is the place that is found, or the length where none is
-- Assumes nothing.
use mathlib.Core.Path.{◌≡◌, refl, sym, ap}
use mathlib.Core.Logic.{by_cases}
use mathlib.Core.Bool.{cond}
use mathlib.Core.List.{List}
use Prim.Native.Nat.{ℕ, zero}
use native.Mathlib.Decide.{dec_lt}
use native.Mathlib.Numerals.{one-add}
use native.Mathlib.Omega.{arith}
use lib.Dec.{eqb}
use lib.ListN.{length}
use borrow.Author.Tests.{lt-ltb, le-ltb}
use Rattle.std.specs.List.{position, position_or_len}
use Rattle.std.specs.Option.{unwrap_or}
use Rattle.std.proofs.lemmas.List.Recursion.{is_position_or_len}
use Rattle.theory.specs.Letters.{line_end, word_length}
use Rattle.theory.proofs.TextLaws.{word_length_le}

word_place : (part : List ℕ) → word_length part ≡ position_or_len (λ b. eqb b line_end) part
unfolding word_length
word_place = is_position_or_len word_length (λ b. eqb b line_end) refl (λ b bs. ap (λ k. cond (eqb b line_end) zero k) (sym (one-add (word_length bs))))

pub word_found : (part : List ℕ) → unwrap_or (position (λ b. eqb b line_end) part) (length part) ≡ word_length part
word_found part =
    rw (← word_place part)
    (by_cases (dec_lt (word_length part) (length part)) (λ h. rw (lt-ltb (word_length part) (length part) h))
    (λ h. rw (le-ltb (word_length part) (length part) (omega arith)) (omega (arith, word_length_le part))))
