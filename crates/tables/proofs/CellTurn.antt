-- The steps of the walk on plain values: the cells of a row, and a cell that breaks no rule.
--   or_false    : for tests of several parts
--   present_le, present_first, present_there, present_absent, present_done : the cells of a row that are present, counted one after the other
--   row_counted : a row is thin if fewer than two cells of its part of the table are present
--   next_cell   : a cell that breaks no rule leads nowhere or to at most the next point
-- Assumes nothing.
use mathlib.Core.Path.{◌≡◌, refl, sym, ◌∙◌, ap}
use mathlib.Core.Bool.{Bool, true, false, not, ◌||◌}
use mathlib.Core.List.{List, []}
use Prim.Native.Nat.{ℕ, suc, ◌+◌, ◌-◌, ◌*◌, ◌≤◌, ◌<◌}
use native.Mathlib.Numerals.{one-add}
use native.Mathlib.Omega.{arith}
use lib.Dec.{eqb, ltb}
use lib.ListN.{length, get_or, take, drop, length-take}
use lib.Seq.{take_all}
use borrow.Author.Tests.{eq-eqb, ne_eqb}
use Rattle.std.proofs.Common.{length-drop}
use Rattle.std.proofs.lemmas.List.{ext_get_or, get_or-take, get_or-drop}
use Rattle.std.proofs.lemmas.Grind.{common_steps}
use Rattle.std.specs.List.{count_by}
use Rattle.std.proofs.lemmas.List.Recursion.{is_count_by}
use Rattle.std.proofs.lemmas.List.Sums.{count_by-le-length, count_by_more_yes, count_by_more_no}
use Rattle.theory.specs.Letters.{usual}
use Rattle.theory.specs.Tables.{absent, Cells, cell}
use Rattle.theory.specs.Canonical.{row_of, present, breaks_cell}
use Rattle.theory.proofs.WordLaws.{by_test}
use Rattle.theory.proofs.TableLaws.{length_usual, get_or_usual, cell_here}
use Rattle.theory.proofs.RowLaws.{length_row, get_or_row}
use Rattle.tables.specs.Lent.{IsLent}
use Rattle.tables.specs.Cells.{is_thin}
use Rattle.tables.proofs.LentLaws.{row_in}

pub or_false : (b : Bool) → (b || false) ≡ b
or_false true = refl
or_false false = refl

-- ── The cells of a row that are present, counted one after the other ──

-- they are those that are not absent
counted : (l : List ℕ) → present l ≡ count_by (λ x. not (eqb x absent)) l
unfolding present
counted =
    is_count_by present (λ x. not (eqb x absent)) refl
    (λ x l. by_test (eqb x absent) (λ e. rw e) (λ e. rw e (sym (one-add (present l)))))

pub present_le : (l : List ℕ) → present l ≤ length l
present_le l = omega (arith, counted l, count_by-le-length (λ x. not (eqb x absent)) l)

pub present_first : 0 ≡ present []
unfolding present
present_first = refl

module _ (row : List ℕ) where
  pub present_there : {found i : ℕ} → found ≡ present (take i row) → i < length row → (get_or row i 0 ≡ absent → ⊥) → found + 1 ≡ present (take (i + 1) row)
  present_there {found} {i} e l m =
      omega (
        arith,
        e,
        counted (take i row),
        counted (take (i + 1) row),
        count_by_more_yes (λ x. not (eqb x absent)) row i 0 l (ap not (ne_eqb (get_or row i 0) absent m)),
      )

  pub present_absent : {found i : ℕ} → found ≡ present (take i row) → i < length row → get_or row i 0 ≡ absent → found ≡ present (take (i + 1) row)
  present_absent {found} {i} e l m =
      omega (
        arith,
        e,
        counted (take i row),
        counted (take (i + 1) row),
        count_by_more_no (λ x. not (eqb x absent)) row i 0 l (ap not (eq-eqb (get_or row i 0) absent m)),
      )

  pub present_done : {found i : ℕ} → found ≡ present (take i row) → length row ≤ i → found ≡ present row
  present_done {found} {i} e l = e ∙ ap present (take_all i row l)

-- ── A thin row ──

module _ {n N : ℕ} {t : List ℕ} (L : IsLent n N t) {v : ℕ} (hv : v < N) where
  -- a row stands in one piece
  row_read : take (2 * n) (drop (v * (2 * n)) t) ≡ row_of (cell n N t) (usual n) v
  row_read =
      ext_get_or 0 (take (2 * n) (drop (v * (2 * n)) t)) (row_of (cell n N t) (usual n) v) size same
    where
      size : length (take (2 * n) (drop (v * (2 * n)) t)) ≡ length (row_of (cell n N t) (usual n) v)
      size =
          omega (
            arith,
            row_in L hv,
            length_row (cell n N t) (usual n) v ∙ length_usual n,
            length-take (2 * n) (drop (v * (2 * n)) t),
            length-drop (v * (2 * n)) t,
          )

      same : (y : ℕ) → y < length (take (2 * n) (drop (v * (2 * n)) t))
          → get_or (take (2 * n) (drop (v * (2 * n)) t)) y 0 ≡ get_or (row_of (cell n N t) (usual n) v) y 0
      same y h =
          let l : y < 2 * n = omega (arith, h, size, length_row (cell n N t) (usual n) v ∙ length_usual n) in
          get_or-take (2 * n) (drop (v * (2 * n)) t) y 0 l
          ∙ get_or-drop (v * (2 * n)) t y 0
          ∙ cell_here n N t v y hv l L.cells
          ∙ sym (get_or_row (cell n N t) (usual n) v y (omega (arith, l, length_usual n)) ∙ ap (cell n N t v) (get_or_usual n y l))

  -- so a row with fewer than two present cells in its part of the table is thin
  pub row_counted : {k : ℕ}
      → k ≡ present (take (v * (2 * n) + 2 * n - v * (2 * n)) (drop (v * (2 * n)) t))
      → ltb k 2 ≡ is_thin n N t v
  row_counted e =
      let w : v * (2 * n) + 2 * n - v * (2 * n) ≡ 2 * n = omega arith in
      ap (λ m. ltb m 2) (e ∙ ap present (ap (λ m. take m (drop (v * (2 * n)) t)) w ∙ row_read))

-- ── A cell that breaks no rule ──

pub next_cell : (N : ℕ) (c : Cells) (v y g : ℕ) → breaks_cell N c v y g ≡ false → (c v y ≡ absent → ⊥) → c v y ≤ suc g
unfolding breaks_cell
next_cell N c v y g e m = grind (arith, common_steps)
