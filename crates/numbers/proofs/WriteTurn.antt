-- The turns of `write_number` on plain values: writing the rest from i on leaves what writing x from `at` on does.
--   head_first, head_turn, head_done : before the first turn, after a turn, after the last byte
--   head_room                        : the place that is written lies in the cells
-- Assumes nothing.
use mathlib.Core.Path.{◌≡◌, refl, sym, ◌∙◌, ap}
use mathlib.Core.List.{List, [], ◌∷◌}
use Prim.Native.Nat.{ℕ, suc, ◌+◌, ◌/◌, ◌%◌, ◌≤◌, ◌<◌}
use native.Mathlib.Numerals.{add-one}
use native.Mathlib.Omega.{arith}
use lib.ListN.{length, set, length-set}
use Rattle.theory.specs.Files.{number_limit, number_bytes}
use Rattle.numbers.specs.Splices.{spliced, WrittenAt}
use Rattle.numbers.proofs.NumberLaws.{number_small, number_more, length_small, length_more, number_some}
use Rattle.numbers.proofs.SpliceLaws.{spliced_none, spliced_cons}

pub record Head (at x : ℕ) (old out : List ℕ) (rest i : ℕ) : Type 0 where
  pub fits : rest ≤ number_limit
  pub place : i + length (number_bytes rest) ≡ at + length (number_bytes x)
  pub room : at + length (number_bytes x) ≤ length old
  pub same : length out ≡ length old
  pub cells : spliced i (number_bytes rest) out ≡ spliced at (number_bytes x) old

pub head_first : (at x : ℕ) (out : List ℕ) → x ≤ number_limit → at + length (number_bytes x) ≤ length out → Head at x out out x at
head_first at x out h k = record { fits = h; place = refl; room = k; same = refl; cells = refl }

module _ {at x : ℕ} {old out : List ℕ} {rest i : ℕ} (h : Head at x old out rest i) where
  pub head_room : i < length out
  head_room = omega (arith, number_some rest, h.place, h.room, h.same)

  pub head_turn : (b : ℕ) → 127 < rest → b ≡ 128 + rest % 128 → Head at x old (set out i b) (rest / 128) (i + 1)
  head_turn b k e =
      record {
        fits = omega (arith, h.fits);
        place = omega (arith, length_more rest (omega arith) h.fits, h.place);
        room = h.room;
        same = length-set out i b ∙ h.same;
        cells =
            ap (λ j. spliced j (number_bytes (rest / 128)) (set out i b)) (add-one i)
            ∙ spliced_cons i b (number_bytes (rest / 128)) out head_room
            ∙ ap (λ y. spliced i (y ∷ number_bytes (rest / 128)) out) is
            ∙ ap (λ l. spliced i l out) (sym (number_more rest (omega arith) h.fits))
            ∙ h.cells;
      }
    where
      is : b ≡ rest % 128 + 128
      is = omega (arith, e)

  pub head_done : (b : ℕ) → rest ≤ 127 → b ≡ rest → WrittenAt at (number_bytes x) old (i + 1) (set out i b)
  head_done b k e =
      record {
        next = omega (arith, length_small rest (omega arith), h.place);
        cells =
            sym (spliced_none (suc i) (set out i b))
            ∙ spliced_cons i b [] out head_room
            ∙ ap (λ y. spliced i (y ∷ []) out) e
            ∙ ap (λ l. spliced i l out) (sym (number_small rest (omega arith)))
            ∙ h.cells;
      }
