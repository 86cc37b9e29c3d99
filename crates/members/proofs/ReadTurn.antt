-- The turns of `read` on plain values: i letters lead from the base to v, and the rest is still to be read.
-- Assumes nothing.
use mathlib.Core.Path.{◌≡◌, sym, ◌∙◌, ap}
use mathlib.Core.List.{List, ◌∷◌}
use Prim.Native.Nat.{ℕ, suc, ◌+◌, ◌≤◌, ◌<◌}
use native.Mathlib.Numerals.{add-one}
use lib.ListN.{length, get_or, drop, drop_of_length-le}
use lib.Seq.{drop-cons}
use borrow.Author.Tests.{eq-eqb, ne_eqb}
use Rattle.std.specs.declared.result.Result.TheVariants.{Ok, Err}
use Rattle.theory.specs.Tables.{absent, Cells, cell, stopped, reading_from, reading_of}
use Rattle.members.specs.Readings.{read_as, reading_as}

module _ (c : Cells) (k v y : ℕ) (w : List ℕ) where
  pub reading_stop : c v y ≡ absent → reading_from c k v (y ∷ w) ≡ stopped k v y
  unfolding reading_from
  reading_stop e = rw (eq-eqb (c v y) absent e)

  pub reading_pass : (c v y ≡ absent → ⊥) → reading_from c k v (y ∷ w) ≡ reading_from c (suc k) (c v y) w
  unfolding reading_from
  reading_pass e = rw (ne_eqb (c v y) absent e)

-- i letters lead from the base to v, and the rest is still to be read
pub record Head (n N : ℕ) (t word : List ℕ) (i v : ℕ) : Type 0 where
  pub here : v < N
  pub passed : reading_of (cell n N t) word ≡ reading_from (cell n N t) i v (drop i word)

module _ {n N : ℕ} {t word : List ℕ} where
  module _ {i v : ℕ} (h : Head n N t word i v) (l : i < length word) where
    -- the next letter stands in front of the rest
    rest : reading_of (cell n N t) word ≡ reading_from (cell n N t) i v (get_or word i 0 ∷ drop (suc i) word)
    rest = h.passed ∙ ap (reading_from (cell n N t) i v) (drop-cons word i 0 l)

    pub head_turn : {x : ℕ} → x ≡ cell n N t v (get_or word i 0) → x < N → (x ≡ absent → ⊥) → Head n N t word (i + 1) x
    head_turn {x} e inside ne =
        record {
          here = inside;
          passed =
              rw (add-one i)
              (rest
              ∙ reading_pass (cell n N t) i v (get_or word i 0) (drop (suc i) word) (λ z. ne (e ∙ z))
              ∙ ap (λ u. reading_from (cell n N t) (suc i) u (drop (suc i) word)) (sym e));
        }

    pub head_stop : {x : ℕ} → x ≡ cell n N t v (get_or word i 0) → x ≡ absent
        → Err (record { count = i; point = v; letter = get_or word i 0 }) ≡ reading_as n N t word
    unfolding reading_as
    head_stop e z =
        sym (ap read_as (rest ∙ reading_stop (cell n N t) i v (get_or word i 0) (drop (suc i) word) (sym e ∙ z)))

  pub head_end_lem : {i v : ℕ} → Head n N t word i v → length word ≤ i → Ok v ≡ reading_as n N t word
  unfolding reading_as reading_from
  head_end_lem {i} {v} h l =
      sym (ap read_as (h.passed ∙ ap (reading_from (cell n N t) i v) (drop_of_length-le word {i = i} l)))
