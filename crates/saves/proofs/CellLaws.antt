-- The numbers of a table's cells, and the file that they make.
--   number_absent, number_point : the number of a cell
--   size_few, head_few          : at most five bytes a number
--   table_numbers, head_sized   : a table's file is its head and its cells
--   savable                     : a table that is not refused is lent
-- Assumes nothing.
use mathlib.Core.Path.{◌≡◌, sym, ◌∙◌, ap}
use mathlib.Core.Bool.{not}
use mathlib.Core.Option.{none}
use mathlib.Core.List.{List, [], ◌∷◌, ◌++◌, map}
use Prim.Native.Nat.{ℕ, ◌+◌, ◌*◌, ◌≤◌}
use native.Mathlib.Omega.{arith}
use lib.ListN.{length, take, length-append}
use borrow.Author.Tests.{eq-eqb, ne_eqb, not-false}
use Rattle.std.proofs.lemmas.List.{length-map}
use Rattle.theory.specs.Files.{number_limit, number_bytes, numbers_bytes, cell_number, table_file}
use Rattle.theory.specs.Refusals.{is_alphabet, refused_if}
use Rattle.theory.specs.Tables.{absent}
use Rattle.theory.specs.TableRefusals.{is_lent, check_refusal}
use Rattle.theory.proofs.TableRefusalLaws.{else_none, unrefused}
use Rattle.tables.specs.Lent.{IsLent}
use Rattle.tables.proofs.LentLaws.{tested_lent}
use Rattle.numbers.specs.Splices.{WrittenAt}
use Rattle.numbers.proofs.NumberLaws.{length_small}
use Rattle.saves.proofs.RunLaws.{numbers_append, numbers_few, numbers_more, numbers_none, front_room, back_room, both_written}

-- ── A cell ──

pub number_absent : (x : ℕ) → x ≡ absent → (0 ≡ cell_number x) × (0 ≤ number_limit)
unfolding cell_number
number_absent x e = (rw (eq-eqb x absent e), omega arith)

pub number_point : (x : ℕ) → (x ≡ absent → ⊥) → x ≤ absent → (x + 1 ≡ cell_number x) × (x + 1 ≤ number_limit)
unfolding cell_number
number_point x e h = (rw (ne_eqb x absent e), omega (arith, e))

-- ── The cells ──

pub size_few : (t : List ℕ) → length (numbers_bytes (map cell_number t)) ≤ 5 * length t
size_few t = omega (arith, numbers_few (map cell_number t), length-map t cell_number)

-- ── The file ──

pub head_sized : (kind n count size : ℕ) → kind ≤ 127 → n ≤ 127 → size ≡ length (number_bytes count)
    → 2 + size ≡ length (numbers_bytes (kind ∷ n ∷ count ∷ []))
head_sized kind n count size a b e =
    omega (arith, e, numbers_more kind (n ∷ count ∷ []), numbers_more n (count ∷ []), numbers_more count [], numbers_none, length_small kind (omega arith), length_small n (omega arith))

pub table_numbers : (n N count : ℕ) (t : List ℕ) → count ≡ N * (2 * n)
    → numbers_bytes (1 ∷ n ∷ N ∷ []) ++ numbers_bytes (map cell_number (take count t)) ≡ table_file n N t
unfolding table_file
table_numbers n N count t e =
    sym (numbers_append (1 ∷ n ∷ N ∷ []) (map cell_number (take count t)))
    ∙ ap (λ k. numbers_bytes (1 ∷ n ∷ N ∷ map cell_number (take k t))) e

pub table_sized : (n N count head size : ℕ) (t : List ℕ) → count ≡ N * (2 * n) → head ≡ length (numbers_bytes (1 ∷ n ∷ N ∷ []))
    → size ≡ length (numbers_bytes (map cell_number (take count t))) → head + size ≡ length (table_file n N t)
table_sized n N count head size t e a b =
    omega (arith, a, b, length-append (numbers_bytes (1 ∷ n ∷ N ∷ [])) (numbers_bytes (map cell_number (take count t))), ap length (table_numbers n N count t e))

-- ── The sizes ──

pub savable : (n N : ℕ) (t : List ℕ) → check_refusal n N t ≡ none → IsLent n N t
unfolding check_refusal
savable n N t e =
    let a = else_none (refused_if (not (is_alphabet n)) 1 0) _ e in
    let b = else_none (refused_if (not (is_lent n N (length t))) 6 0) _ a.1 in
    tested_lent (not-false _ (unrefused (not (is_alphabet n)) 1 0 a.0)) (not-false _ (unrefused (not (is_lent n N (length t))) 6 0 b.0))

-- ── Head and cells, written ──

module _ (n N count : ℕ) (t out : List ℕ) (e : count ≡ N * (2 * n)) (room : length (table_file n N t) ≤ length out) where
  abbrev head : List ℕ
  head = numbers_bytes (1 ∷ n ∷ N ∷ [])

  abbrev cells : List ℕ
  cells = numbers_bytes (map cell_number (take count t))

  pub head_room : length head ≤ length out
  head_room = omega (arith, front_room 0 head cells (table_file n N t) out (table_numbers n N count t e) (omega (arith, room)))

  pub cells_room : {at : ℕ} {mid : List ℕ} → WrittenAt 0 head out at mid → at + length cells ≤ length mid
  cells_room w = back_room 0 head cells (table_file n N t) out (table_numbers n N count t e) (omega (arith, room)) w

  pub table_made : {at end : ℕ} {mid after : List ℕ} → WrittenAt 0 head out at mid → WrittenAt at cells mid end after
      → WrittenAt 0 (table_file n N t) out end after
  table_made a b = both_written 0 head cells (table_file n N t) out (table_numbers n N count t e) (omega (arith, room)) a b

pub head_few : (kind n count : ℕ) → length (numbers_bytes (kind ∷ n ∷ count ∷ [])) ≤ 15
head_few kind n count = omega (arith, numbers_few (kind ∷ n ∷ count ∷ []))
