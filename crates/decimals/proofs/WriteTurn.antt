-- The turns of `write_digits` on plain values: the first i digits are to come, those of `rest`; the ones behind them are written.
--   left                             : the digits to come, none after the last
--   head_first, head_turn, head_done : before the first turn, after a turn, after the last
-- Assumes nothing.
use mathlib.Core.Path.{◌≡◌, refl, sym, ◌∙◌, ap}
use mathlib.Core.Logic.{by_cases}
use mathlib.Core.List.{List, [], ◌∷◌, ◌++◌, append_assoc}
use Prim.Native.Nat.{ℕ, zero, suc, ◌+◌, ◌-◌, ◌/◌, ◌%◌, ◌≤◌, ◌<◌}
use native.Mathlib.Decide.{dec_lt}
use native.Mathlib.Numerals.{add-one, sub-one}
use native.Mathlib.Omega.{arith}
use lib.ListN.{length, drop, set, length-append}
use Rattle.std.proofs.lemmas.List.{drop-set}
use Rattle.decimals.specs.Decimal.{decimal_of}
use Rattle.decimals.proofs.DecimalLaws.{decimal_small, decimal_more, length_small, length_more, decimal_some}

abbrev pub left : ℕ → ℕ → List ℕ
left zero rest = []
left (suc i) rest = decimal_of rest

-- the last of the digits to come
left_turn : (i rest : ℕ) → length (decimal_of rest) ≡ suc i → decimal_of rest ≡ left i (rest / 10) ++ ((48 + rest % 10) ∷ [])
left_turn zero rest h = decimal_small rest small ∙ ap (λ k. (48 + k) ∷ []) last
  where
    small : rest < 10
    small = by_cases (dec_lt rest 10) (λ s. s) (λ s. absurd (omega (arith, length_more rest (omega arith), decimal_some (rest / 10))))

    last : rest ≡ rest % 10
    last = omega (arith, small)
left_turn (suc i) rest h =
    by_cases (dec_lt rest 10) (λ s. absurd (omega (arith, length_small rest s))) (λ s. decimal_more rest (omega arith))

pub record Head (x size : ℕ) (old out : List ℕ) (rest i : ℕ) : Type 0 where
  pub sized : length (left i rest) ≡ i
  pub cells : left i rest ++ drop i out ≡ decimal_of x ++ drop size old

pub head_first : (x size : ℕ) (out : List ℕ) → size ≡ length (decimal_of x) → Head x size out out x size
head_first x zero out e = absurd (omega (arith, decimal_some x))
head_first x (suc i) out e = record { sized = sym e; cells = refl }

pub head_turn : {x size : ℕ} {old out : List ℕ} {rest i : ℕ} → Head x size old out rest i → 0 < i → i ≤ length out → Head x size old (set out (i - 1) (48 + rest % 10)) (rest / 10) (i - 1)
head_turn {i = zero} h k f = absurd (omega arith)
head_turn {out = out} {rest = rest} {i = suc i} h k f =
    simp sub-one
    record {
      sized = omega (arith, ap length (left_turn i rest h.sized), length-append front (b ∷ []), h.sized);
      cells =
          ap (λ l. front ++ l) (drop-set out i b f)
          ∙ sym (append_assoc front (b ∷ []) (drop (i + 1) out))
          ∙ ap (λ l. l ++ drop (i + 1) out) (sym (left_turn i rest h.sized))
          ∙ rw add-one h.cells;
    }
  where
    b : ℕ
    b = 48 + rest % 10

    front : List ℕ
    front = left i (rest / 10)

pub head_done : {x size : ℕ} {old out : List ℕ} {rest i : ℕ} → Head x size old out rest i → i ≤ 0 → out ≡ decimal_of x ++ drop size old
head_done {i = zero} h k = h.cells
head_done {i = suc i} h k = absurd (omega arith)
