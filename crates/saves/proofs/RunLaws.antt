-- A run of numbers, sized and written one after the other, on plain values.
--   numbers_append, numbers_few                 : the bytes of two runs; at most five a number
--   mapped_next, mapped_end                     : the numbers of what is walked, from place i on
--   Sizing, sized_low, sized_turn, sized_done   : the size so far and the bytes of the rest are the size of the run
--   Run, run_first, run_turn, run_done          : writing the rest from p on leaves what writing the run from `at` on does
--   front_room, back_room, both_written         : some bytes, then others behind them
-- Assumes nothing.
use mathlib.Core.Path.{◌≡◌, refl, sym, ◌∙◌, ap, subst}
use mathlib.Core.List.{List, [], ◌∷◌, ◌++◌, map, append_assoc}
use Prim.Native.Nat.{ℕ, ◌+◌, ◌*◌, ◌≤◌, ◌<◌}
use native.Mathlib.Omega.{arith}
use lib.ListN.{length, get_or, drop, length-append}
use Rattle.std.proofs.lemmas.List.{length-map, get_or-map, drop_more, drop_all}
use Rattle.theory.specs.Files.{number_bytes, numbers_bytes}
use Rattle.numbers.specs.Splices.{spliced, WrittenAt}
use Rattle.numbers.proofs.NumberLaws.{number_fits}
use Rattle.numbers.proofs.SpliceLaws.{spliced_none, spliced_append, length_spliced, written_then}

pub numbers_append : (xs ys : List ℕ) → numbers_bytes (xs ++ ys) ≡ numbers_bytes xs ++ numbers_bytes ys
unfolding numbers_bytes
numbers_append [] ys = refl
numbers_append (x ∷ xs) ys =
    ap (λ l. number_bytes x ++ l) (numbers_append xs ys) ∙ sym (append_assoc (number_bytes x) (numbers_bytes xs) (numbers_bytes ys))

pub numbers_next : (x : ℕ) (xs : List ℕ) → numbers_bytes (x ∷ xs) ≡ number_bytes x ++ numbers_bytes xs
unfolding numbers_bytes
numbers_next x xs = refl

pub numbers_more : (x : ℕ) (xs : List ℕ) → length (numbers_bytes (x ∷ xs)) ≡ length (number_bytes x) + length (numbers_bytes xs)
numbers_more x xs = ap length (numbers_next x xs) ∙ length-append (number_bytes x) (numbers_bytes xs)

pub numbers_none : length (numbers_bytes []) ≡ 0
unfolding numbers_bytes
numbers_none = refl

pub numbers_few : (xs : List ℕ) → length (numbers_bytes xs) ≤ 5 * length xs
numbers_few [] = omega (arith, numbers_none)
numbers_few (x ∷ xs) = omega (arith, numbers_more x xs, number_fits x, numbers_few xs)

-- ── What is walked ──

module _ (f : ℕ → ℕ) (t : List ℕ) (i : ℕ) where
  pub mapped_next : {x : ℕ} → i < length t → x ≡ f (get_or t i 0) → drop i (map f t) ≡ x ∷ drop (i + 1) (map f t)
  mapped_next h e =
      drop_more (map f t) i 0 (simp length-map h)
      ∙ ap (λ y. y ∷ drop (i + 1) (map f t)) (get_or-map f t i 0 0 h ∙ sym e)

  pub mapped_end : length t ≤ i → drop i (map f t) ≡ []
  mapped_end h = drop_all i (map f t) (simp length-map h)

-- ── The size ──

pub record Sizing (xs rest : List ℕ) (size : ℕ) : Type 0 where
  pub counted : size + length (numbers_bytes rest) ≡ length (numbers_bytes xs)

module _ {xs rest : List ℕ} {size : ℕ} (h : Sizing xs rest size) where
  module _ {x k : ℕ} {behind : List ℕ} (e : rest ≡ x ∷ behind) (is : k ≡ length (number_bytes x)) where
    pub sized_low : size + k ≤ length (numbers_bytes xs)
    sized_low = omega (arith, h.counted, ap (λ l. length (numbers_bytes l)) e, numbers_more x behind)

    pub sized_turn : Sizing xs behind (size + k)
    sized_turn = record { counted = omega (arith, h.counted, ap (λ l. length (numbers_bytes l)) e, numbers_more x behind) }

  pub sized_done : rest ≡ [] → size ≡ length (numbers_bytes xs)
  sized_done e = omega (arith, h.counted, ap (λ l. length (numbers_bytes l)) e, numbers_none)

-- ── Writing ──

pub record Run (xs rest : List ℕ) (at : ℕ) (old out : List ℕ) (p : ℕ) : Type 0 where
  pub place : p + length (numbers_bytes rest) ≡ at + length (numbers_bytes xs)
  pub room : at + length (numbers_bytes xs) ≤ length old
  pub same : length out ≡ length old
  pub cells : spliced p (numbers_bytes rest) out ≡ spliced at (numbers_bytes xs) old

pub run_first : (xs : List ℕ) (at : ℕ) (out : List ℕ) → at + length (numbers_bytes xs) ≤ length out → Run xs xs at out out at
run_first xs at out h = record { place = refl; room = h; same = refl; cells = refl }

module _ {xs rest : List ℕ} {at : ℕ} {old out : List ℕ} {p : ℕ} (h : Run xs rest at old out p) where
  -- some bytes of the rest are written
  module _ (bytes behind : List ℕ) (e : numbers_bytes rest ≡ bytes ++ numbers_bytes behind) where
    part_room : p + length bytes ≤ length out
    part_room = omega (arith, h.place, h.room, h.same, ap length e, length-append bytes (numbers_bytes behind))

    part_turn : {r : ℕ} {after : List ℕ} → WrittenAt p bytes out r after → Run xs behind at old after r
    part_turn {r} {after} w =
        record {
          place = omega (arith, w.next, h.place, ap length e, length-append bytes (numbers_bytes behind));
          room = h.room;
          same = ap length w.cells ∙ length_spliced p bytes out part_room ∙ h.same;
          cells =
              ap (λ k. spliced k (numbers_bytes behind) after) w.next
              ∙ ap (λ l. spliced (p + length bytes) (numbers_bytes behind) l) w.cells
              ∙ spliced_append p bytes (numbers_bytes behind) out part_room
              ∙ ap (λ l. spliced p l out) (sym e)
              ∙ h.cells;
        }

  -- a number
  module _ {x : ℕ} {behind : List ℕ} (e : rest ≡ x ∷ behind) where
    starts : numbers_bytes rest ≡ number_bytes x ++ numbers_bytes behind
    starts = ap numbers_bytes e ∙ numbers_next x behind

    pub run_room : p + length (number_bytes x) ≤ length out
    run_room = part_room (number_bytes x) behind starts

    pub run_turn : {r : ℕ} {after : List ℕ} → WrittenAt p (number_bytes x) out r after → Run xs behind at old after r
    run_turn = part_turn (number_bytes x) behind starts

  -- some numbers
  module _ (front behind : List ℕ) (e : rest ≡ front ++ behind) where
    pub runs_room : p + length (numbers_bytes front) ≤ length out
    runs_room = part_room (numbers_bytes front) behind (ap numbers_bytes e ∙ numbers_append front behind)

    pub runs_turn : {r : ℕ} {after : List ℕ} → WrittenAt p (numbers_bytes front) out r after → Run xs behind at old after r
    runs_turn = part_turn (numbers_bytes front) behind (ap numbers_bytes e ∙ numbers_append front behind)

  pub run_done : rest ≡ [] → WrittenAt at (numbers_bytes xs) old p out
  unfolding numbers_bytes
  run_done e =
      record {
        next = omega (arith, h.place, ap (λ l. length (numbers_bytes l)) e, numbers_none);
        cells = sym (spliced_none p out) ∙ ap (λ l. spliced p (numbers_bytes l) out) (sym e) ∙ h.cells;
      }

-- from the first place on
pub run_start : (xs out : List ℕ) → length (numbers_bytes xs) ≤ length out → Run xs xs 0 out out 0
run_start xs out h = run_first xs 0 out (omega arith)

-- ── Two parts ──

module _ (at : ℕ) (front back whole out : List ℕ) (e : front ++ back ≡ whole) (room : at + length whole ≤ length out) where
  lengths : length front + length back ≡ length whole
  lengths = sym (length-append front back) ∙ ap length e

  pub front_room : at + length front ≤ length out
  front_room = omega (arith, lengths, room)

  pub back_room : {p : ℕ} {mid : List ℕ} → WrittenAt at front out p mid → p + length back ≤ length mid
  back_room w = omega (arith, lengths, room, w.next, ap length w.cells, length_spliced at front out front_room)

  pub both_written : {p q : ℕ} {mid after : List ℕ} → WrittenAt at front out p mid → WrittenAt p back mid q after → WrittenAt at whole out q after
  both_written {p} {q} {mid} {after} a b = subst (λ l. WrittenAt at l out q after) e (written_then front_room a b)
