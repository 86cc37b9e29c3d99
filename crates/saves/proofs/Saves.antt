-- What a caller learns of a saved table (document 01, 'The saved file').
--   table_file_one  : two tables of 32-bit cells that are not refused and have one file are the same
--   table_file_here_lem : abA with n = 2 is 01 02 02 02 00 00 00 00 01 02 02
-- Assumes nothing.
use mathlib.Core.Path.{◌≡◌, refl, sym, ◌∙◌, ap}
use mathlib.Core.Logic.{by_cases}
use mathlib.Core.Option.{none}
use mathlib.Core.List.{List, [], ◌∷◌, map}
use Prim.Native.Nat.{ℕ, zero, suc, ◌+◌, ◌*◌, ◌≤◌}
use native.Mathlib.Decide.{ℕ_discrete}
use native.Mathlib.Omega.{arith}
use lib.ListN.{length, get_or, take, drop}
use lib.Seq.{length-take-le}
use Rattle.std.proofs.lemmas.List.{length-map}
use borrow.Author.Tests.{eq-eqb, ne_eqb}
use Rattle.theory.specs.Files.{groups, number_bytes, numbers_bytes, cell_number, table_file}
use Rattle.theory.specs.Tables.{absent}
use Rattle.theory.specs.TableRefusals.{check_refusal}
use Rattle.numbers.proofs.Numbers.{number_one, AllFit, numbers_one}
use Rattle.saves.proofs.CellLaws.{savable}

-- ── Cells and their numbers ──

cell_number_lem : (x : ℕ) → (x ≡ absent → ⊥) → cell_number x ≡ x + 1
unfolding cell_number
cell_number_lem x e = rw (ne_eqb x absent e)

absent_number : (x : ℕ) → x ≡ absent → cell_number x ≡ 0
unfolding cell_number
absent_number x e = rw (eq-eqb x absent e)

number_cell_lem : (x y : ℕ) → cell_number x ≡ cell_number y → x ≡ y
number_cell_lem x y e =
    by_cases (ℕ_discrete x absent)
    (λ a. by_cases (ℕ_discrete y absent) (λ b. a ∙ sym b) (λ b. absurd (omega (arith, e, absent_number x a, cell_number_lem y b))))
    (λ a. by_cases (ℕ_discrete y absent) (λ b. absurd (omega (arith, e, cell_number_lem x a, absent_number y b)))
    (λ b. omega (arith, e, cell_number_lem x a, cell_number_lem y b)))

numbers_cells : (s t : List ℕ) → map cell_number s ≡ map cell_number t → s ≡ t
numbers_cells [] [] e = refl
numbers_cells [] (y ∷ t) e = absurd (omega (arith, ap length e))
numbers_cells (x ∷ s) [] e = absurd (omega (arith, ap length e))
numbers_cells (x ∷ s) (y ∷ t) e =
    ap (λ z. z ∷ s) (number_cell_lem x y (ap (λ l. get_or l 0 0) e)) ∙ ap (λ l. y ∷ l) (numbers_cells s t (ap (λ l. drop 1 l) e))

-- every cell has 32 bits
abbrev pub Cells32 : List ℕ → Type 0
Cells32 [] = Unit {0}
Cells32 (x ∷ t) = (x ≤ absent) × Cells32 t

cells_fit : (k : ℕ) (t : List ℕ) → Cells32 t → AllFit (map cell_number (take k t))
cells_fit zero [] h = _
cells_fit zero (x ∷ t) h = _
cells_fit (suc k) [] h = _
cells_fit (suc k) (x ∷ t) h = (
  by_cases (ℕ_discrete x absent) (λ a. omega (arith, absent_number x a)) (λ a. omega (arith, a, cell_number_lem x a, h.0)),
  cells_fit k t h.1,
)

-- ── The file ──

-- tables of one size
cells_one : (k l : ℕ) (t s : List ℕ) → Cells32 t → Cells32 s → k ≤ length t → l ≤ length s → k ≡ l
    → numbers_bytes (map cell_number (take k t)) ≡ numbers_bytes (map cell_number (take l s)) → take k t ≡ take l s
cells_one k l t s ct cs a b e f =
    numbers_cells (take k t) (take l s)
    (numbers_one (map cell_number (take k t)) (map cell_number (take l s)) (cells_fit k t ct) (cells_fit l s cs)
    (length-map (take k t) cell_number ∙ length-take-le k t a ∙ e ∙ sym (length-take-le l s b) ∙ sym (length-map (take l s) cell_number)) f)

pub table_file_one : (n N m M : ℕ) (t s : List ℕ) → Cells32 t → Cells32 s → check_refusal n N t ≡ none → check_refusal m M s ≡ none
    → table_file n N t ≡ table_file m M s → (n ≡ m) × (N ≡ M) × (take (N * (2 * n)) t ≡ take (M * (2 * m)) s)
unfolding table_file numbers_bytes
table_file_one n N m M t s ct cs et es f =
    let x = savable n N t et in
    let y = savable m M s es in
    let xs : List ℕ = map cell_number (take (N * (2 * n)) t) in
    let ys : List ℕ = map cell_number (take (M * (2 * m)) s) in
    let a = number_one 1 1 (numbers_bytes (n ∷ N ∷ xs)) (numbers_bytes (m ∷ M ∷ ys)) (omega arith) (omega arith) f in
    let b = number_one n m (numbers_bytes (N ∷ xs)) (numbers_bytes (M ∷ ys)) (omega (arith, x.letters)) (omega (arith, y.letters)) a.1 in
    let c = number_one N M (numbers_bytes xs) (numbers_bytes ys) (omega (arith, x.points)) (omega (arith, y.points)) b.1 in (
      b.0,
      c.0,
      cells_one (N * (2 * n)) (M * (2 * m)) t s ct cs x.cells y.cells
          (ap (λ k. N * (2 * k)) b.0 ∙ ap (λ k. k * (2 * m)) c.0) c.1,
    )

-- ── By computation ──

pub table_file_here_lem : table_file 2 2 (1 ∷ absent ∷ absent ∷ absent ∷ absent ∷ 0 ∷ 1 ∷ 1 ∷ [])
    ≡ 1 ∷ 2 ∷ 2 ∷ 2 ∷ 0 ∷ 0 ∷ 0 ∷ 0 ∷ 1 ∷ 2 ∷ 2 ∷ []
unfolding table_file cell_number numbers_bytes number_bytes groups
table_file_here_lem = refl
