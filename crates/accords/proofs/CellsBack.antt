-- Cells of a table, written as numbers and read back (theory's `cell_number`; table_files' `number_cell`, `table_in`).
--   number_cell_lem, cell_number_lem : the cell of a cell's number is the cell; the number of a number's cell is the number
--   cells_fit                : the cells of a table that is not refused have numbers that a file may hold
--   same_rows                : what is refused of a table's cells is decided by its rows
--   table_read               : a table that is written is read
--   TableStands, table_written : a table that was read is written there, and the file ends behind it
-- Assumes nothing.
use mathlib.Core.Path.{◌≡◌, refl, sym, ◌∙◌, ap, subst, fun_ext}
use mathlib.Core.Logic.{by_cases}
use mathlib.Core.Bool.{Bool, true, false, cond, not, true≢false}
use mathlib.Core.Option.{Option, none, some}
use mathlib.Core.List.{List, [], ◌∷◌, ◌++◌, map, append-nil}
use Prim.Native.Nat.{ℕ, suc, ◌+◌, ◌-◌, ◌*◌, ◌/◌, ◌%◌, ◌≤◌, ◌<◌}
use native.Mathlib.Decide.{ℕ_discrete}
use native.Mathlib.Nat.{mul-zero, div-add-mod', mod-lt, div-lt_iff_lt-mul}
use native.Mathlib.Omega.{arith}
use lib.Dec.{ltb}
use lib.ListN.{length, get_or, take, drop, length-map, length-drop, drop_of_length-le}
use lib.Seq.{length-take-le, get_or-take, take-take}
use borrow.Author.Tests.{eq-eqb, ne_eqb, le-ltb, ltb-false, not-false}
use Rattle.theory.specs.Files.{number_limit, number_bytes, numbers_bytes, cell_number}
use Rattle.theory.specs.Letters.{usual}
use Rattle.theory.specs.Refusals.{Refusal as FirstCause, point_limit, is_alphabet, refused_if}
use Rattle.theory.specs.Tables.{absent, cell}
use Rattle.theory.specs.Canonical.{Canonical, faulty_cell}
use Rattle.theory.specs.TableRefusals.{is_lent, at_cell, cell_refusal, check_refusal}
use Rattle.theory.proofs.ListTexts.{LettersBelow}
use Rattle.theory.proofs.RefusalLaws.{alphabet_in}
use Rattle.theory.proofs.TableLaws.{cell_in}
use Rattle.theory.proofs.CanonicalLaws.{table_none_canonical}
use Rattle.theory.proofs.TableRefusalLaws.{else_none, unrefused, no_cell, lent_in, in_lent}
use Rattle.theory.proofs.OneTable.{cells_of_rows}
use Rattle.numbers.proofs.Numbers.{AllFit}
use Rattle.saves.proofs.CellLaws.{number_absent, number_point}
use Rattle.runs.specs.Runs.{Run, broken, whole, number_at, behind, numbers_at}
use Rattle.runs.proofs.BackLaws.{number_read, number_left, number_written, numbers_read, numbers_written}
use Rattle.table_files.specs.TableFiles.{number_cell, refused, faulty, sound, by_fault, cells_in, points_in, table_in}

-- ── A cell and its number ──

pub number_cell_lem : (x : ℕ) → number_cell (cell_number x) ≡ x
unfolding number_cell cell_number
number_cell_lem x =
    by_cases (ℕ_discrete x absent) (λ e. rw (eq-eqb x absent e) (sym e))
    (λ e. rw (ne_eqb x absent e) (rw (ne_eqb (x + 1) 0 (λ z. omega arith)) (less x)))
  where
    less : (x : ℕ) → x + 1 - 1 ≡ x
    less x = omega arith

pub cell_number_lem : (x : ℕ) → x ≤ number_limit → cell_number (number_cell x) ≡ x
unfolding number_cell cell_number
cell_number_lem x h =
    by_cases (ℕ_discrete x 0) (λ e. rw (eq-eqb x 0 e) (sym e))
    (λ e. rw (ne_eqb x 0 e) (rw (ne_eqb (x - 1) absent (λ z. omega (arith, h, e, z))) (more e)))
  where
    more : (x ≡ 0 → ⊥) → x - 1 + 1 ≡ x
    more e = omega (arith, e)

numbers_cells : (t : List ℕ) → map number_cell (map cell_number t) ≡ t
numbers_cells [] = refl
numbers_cells (x ∷ t) = ap (λ z. z ∷ map number_cell (map cell_number t)) (number_cell_lem x) ∙ ap (λ l. x ∷ l) (numbers_cells t)

cells_numbers : (xs : List ℕ) → AllFit xs → map cell_number (map number_cell xs) ≡ xs
cells_numbers [] h = refl
cells_numbers (x ∷ xs) h =
    ap (λ z. z ∷ map cell_number (map number_cell xs)) (cell_number_lem x h.0) ∙ ap (λ l. x ∷ l) (cells_numbers xs h.1)

-- ── Numbers that a file may hold ──

fit_below : (xs : List ℕ) → AllFit xs → LettersBelow (number_limit + 1) xs
fit_below [] h = tt
fit_below (x ∷ xs) h = (omega (arith, h.0), fit_below xs h.1)

fit_each : (l : List ℕ) → ((i : ℕ) → i < length l → get_or l i absent ≤ absent) → AllFit (map cell_number l)
fit_each [] f = tt
fit_each (x ∷ l) f = (one x (f 0 (omega arith)), fit_each l (λ i h. f (suc i) (omega arith)))
  where
    one : (x : ℕ) → x ≤ absent → cell_number x ≤ number_limit
    one x h =
        by_cases (ℕ_discrete x absent) (λ e. omega (arith, (number_absent x e).0))
        (λ e. omega (arith, (number_point x e h).0, (number_point x e h).1))

-- what a table that is not refused is
pub record Fine (n N : ℕ) (t : List ℕ) : Type 0 where
  pub alphabet : is_alphabet n ≡ true
  pub lent : (1 ≤ N) × (N ≤ point_limit) × (N * (2 * n) ≤ length t)
  pub cells : cell_refusal n N t ≡ none

pub fine : (n N : ℕ) (t : List ℕ) → check_refusal n N t ≡ none → Fine n N t
unfolding check_refusal
fine n N t e =
    let a = else_none (refused_if (not (is_alphabet n)) 1 0) _ e in
    let b = else_none (refused_if (not (is_lent n N (length t))) 6 0) _ a.1 in
    record {
      alphabet = not-false _ (unrefused (not (is_alphabet n)) 1 0 a.0);
      lent = lent_in n N (length t) (not-false _ (unrefused (not (is_lent n N (length t))) 6 0 b.0));
      cells = b.1;
    }

pub fine_check : (n N : ℕ) (t : List ℕ) → is_alphabet n ≡ true → is_lent n N (length t) ≡ true → cell_refusal n N t ≡ none → check_refusal n N t ≡ none
unfolding check_refusal
fine_check n N t a b c = rw (a, b, c)

pub cells_fit : (n N : ℕ) (t : List ℕ) → Fine n N t → AllFit (map cell_number (take (N * (2 * n)) t))
unfolding cell_refusal
cells_fit n N t f =
    fit_each (take (N * (2 * n)) t)
    (λ i h. let g : i < N * (2 * n) = subst (λ k. i < k) (length-take-le (N * (2 * n)) t f.lent.2) h in
    subst (λ x. x ≤ absent) (sym (get_or-take (N * (2 * n)) t i absent g)) (here i g))
  where
    canonical : Canonical N (usual n) (cell n N t)
    canonical = table_none_canonical n N t (alphabet_in n f.alphabet).0 (no_cell (faulty_cell N (usual n) (cell n N t)) f.cells)

    small : (v y : ℕ) → cell n N t v y ≤ absent
    small v y =
        by_cases (ℕ_discrete (cell n N t v y) absent) (λ e. omega (arith, e))
        (λ e. omega (arith, canonical.within v y (cell n N t v y) (refl, e), f.lent.1))

    here : (i : ℕ) → i < N * (2 * n) → get_or t i absent ≤ absent
    here i g =
        let w : 0 < 2 * n = by_cases (ℕ_discrete (2 * n) 0) (λ z. absurd (omega (arith, rw (z, mul-zero) at g))) (λ z. omega arith) in
        let y : i % (2 * n) < 2 * n = mod-lt i w in
        let v : i / (2 * n) < N = (div-lt_iff_lt-mul w).1 g in
        subst (λ j. get_or t j absent ≤ absent) (div-add-mod' i (2 * n))
        (subst (λ x. x ≤ absent) (cell_in n N t (i / (2 * n)) (i % (2 * n)) v y) (small (i / (2 * n)) (i % (2 * n))))

pub same_rows : (n N : ℕ) (t s : List ℕ) → take (N * (2 * n)) t ≡ take (N * (2 * n)) s → cell_refusal n N t ≡ cell_refusal n N s
unfolding cell_refusal
same_rows n N t s e =
    ap (λ c. at_cell (faulty_cell N (usual n) c)) (fun_ext (λ v. fun_ext (λ y. cells_of_rows n {N = N} {M = N} t s refl e v y)))

-- ── A table in a file ──

pub table_read : (n N cells : ℕ) (file : List ℕ) (p : ℕ) (t : List ℕ) → Fine n N t → N * (2 * n) ≤ cells
    → drop p file ≡ numbers_bytes (N ∷ map cell_number (take (N * (2 * n)) t)) → table_in n cells file p ≡ sound N (take (N * (2 * n)) t)
unfolding table_in numbers_bytes
table_read n N cells file p t f h e =
    ap (points_in n cells file p) (number_read file (numbers_bytes xs) p N (omega (arith, f.lent.1)) e)
    ∙ rw (in_lent n N cells f.lent.0 f.lent.1 h)
    (ap (cells_in n N file) run
    ∙ rw (le-ltb q (length file) end)
    (ap (λ l. by_fault N l (cell_refusal n N l)) (numbers_cells rows) ∙ ap (by_fault N rows) clear))
  where
    rows : List ℕ
    rows = take (N * (2 * n)) t

    xs : List ℕ
    xs = map cell_number rows

    left : drop (behind p N) file ≡ numbers_bytes xs
    left = number_left file (numbers_bytes xs) p N e

    q : ℕ
    q = behind p N + length (numbers_bytes xs)

    many : length xs ≡ N * (2 * n)
    many = length-map rows cell_number ∙ length-take-le (N * (2 * n)) t f.lent.2

    run : numbers_at (number_limit + 1) file (behind p N) (N * (2 * n)) ≡ whole xs q
    run =
        ap (numbers_at (number_limit + 1) file (behind p N)) (sym many)
        ∙ numbers_read (number_limit + 1) file [] (behind p N) xs (cells_fit n N t f) (fit_below xs (cells_fit n N t f)) (left ∙ sym (append-nil (numbers_bytes xs)))

    end : length file ≤ q
    end = omega (arith, length-drop (behind p N) file, ap length left)

    clear : cell_refusal n N rows ≡ none
    clear = same_rows n N rows t (take-take (N * (2 * n)) (N * (2 * n)) t (omega arith)) ∙ f.cells

-- a table stands from p to the file's end, and a lent table has room for it
pub record TableStands (n cells : ℕ) (file : List ℕ) (p N : ℕ) (t : List ℕ) : Type 0 where
  pub rows : length t ≡ N * (2 * n)
  pub lent : is_lent n N cells ≡ true
  pub clear : cell_refusal n N t ≡ none
  pub bytes : drop p file ≡ numbers_bytes (N ∷ map cell_number t)

-- what is refused, or faulty, is not sound; what is sound is what it is
refused_sound : {r : FirstCause} {N : ℕ} {t : List ℕ} → refused r ≡ sound N t → ⊥
refused_sound e = true≢false cc

faulty_sound : {k : ℕ} {r : FirstCause} {N : ℕ} {t : List ℕ} → faulty k r ≡ sound N t → ⊥
faulty_sound e = true≢false cc

sound_one : {N M : ℕ} {t s : List ℕ} → sound N t ≡ sound M s → (N ≡ M) × (t ≡ s)
sound_one e = (cc, cc)

module _ (n cells : ℕ) (file : List ℕ) (p N : ℕ) (t : List ℕ) where
  module _ (M : ℕ) (a : number_at file p ≡ some M) (l : is_lent n M cells ≡ true) (xs : List ℕ) (q : ℕ)
      (b : numbers_at (number_limit + 1) file (behind p M) (M * (2 * n)) ≡ whole xs q) (c : ltb q (length file) ≡ false) where
    by_fault_lem : (o : Option FirstCause) → cell_refusal n M (map number_cell xs) ≡ o → by_fault M (map number_cell xs) o ≡ sound N t → TableStands n cells file p N t
    unfolding numbers_bytes
    by_fault_lem (some r) d e = absurd (faulty_sound e)
    by_fault_lem none d e =
        let o = sound_one e in
        let x = number_written file p M a in
        let s = numbers_written (number_limit + 1) file (behind p M) (M * (2 * n)) xs q b in
        let end : drop q file ≡ [] = drop_of_length-le file {i = q} (ltb-false q (length file) c) in
        subst (λ m. TableStands n cells file p N m) o.1
        (subst (λ k. TableStands n cells file p k (map number_cell xs)) o.0
        (record {
          rows = length-map xs number_cell ∙ s.many;
          lent = l;
          clear = d;
          bytes =
              x.1 ∙ ap (λ m. number_bytes M ++ m) (s.bytes ∙ ap (λ m. numbers_bytes xs ++ m) end ∙ append-nil (numbers_bytes xs))
              ∙ ap (λ m. number_bytes M ++ numbers_bytes m) (sym (cells_numbers xs s.fit));
        }))

  module _ (M : ℕ) (a : number_at file p ≡ some M) where
    by_end : is_lent n M cells ≡ true → (xs : List ℕ) (q : ℕ) → numbers_at (number_limit + 1) file (behind p M) (M * (2 * n)) ≡ whole xs q
        → (b : Bool) → ltb q (length file) ≡ b
        → cond b (refused (record { number = 12; place = q })) (by_fault M (map number_cell xs) (cell_refusal n M (map number_cell xs))) ≡ sound N t
        → TableStands n cells file p N t
    by_end l xs q b true c e = absurd (refused_sound e)
    by_end l xs q b false c e = by_fault_lem M a l xs q b c (cell_refusal n M (map number_cell xs)) refl e

    by_run : is_lent n M cells ≡ true → (run : Run) → numbers_at (number_limit + 1) file (behind p M) (M * (2 * n)) ≡ run → cells_in n M file run ≡ sound N t
        → TableStands n cells file p N t
    by_run l (broken r) b e = absurd (refused_sound e)
    by_run l (whole xs q) b e = by_end l xs q b (ltb q (length file)) refl e

    by_lent : (b : Bool) → is_lent n M cells ≡ b
        → cond b (cells_in n M file (numbers_at (number_limit + 1) file (behind p M) (M * (2 * n)))) (refused (record { number = 6; place = 0 })) ≡ sound N t
        → TableStands n cells file p N t
    by_lent true l e = by_run l (numbers_at (number_limit + 1) file (behind p M) (M * (2 * n))) refl e
    by_lent false l e = absurd (refused_sound e)

  by_points : (o : Option ℕ) → number_at file p ≡ o → points_in n cells file p o ≡ sound N t → TableStands n cells file p N t
  by_points none a e = absurd (refused_sound e)
  by_points (some M) a e = by_lent M a (is_lent n M cells) refl e

  pub table_written : table_in n cells file p ≡ sound N t → TableStands n cells file p N t
  unfolding table_in
  table_written e = by_points (number_at file p) refl e
