-- A table in a file of kind 1, behind the kind and n (document 01, 'The saved file'; refusals 10, 6, 10, 12, 8), cited by `read_table`.
--   number_cell x       == the cell of a number: absent for 0, else the point before it
--   TableIn            == what stands there: a refusal, a table with a faulty cell, or a canonical one
--   table_in n cells file p == that, from byte p on, for a lent table of so many cells
--   TableOutcome      <-> the answer; a table read stands in the first cells, a faulty one leaves as many absent, and all others are as they were
-- Assumes nothing.
use Rattle.std.specs.Prelude.{◌≡◌, cond, List, ◌++◌, map, ℕ, ◌+◌, ◌-◌, ◌*◌, eqb, ltb, length, drop}
use Rattle.std.proofs.Math.Option.{Option, none, some}
use Rattle.std.specs.declared.result.Result.{Result}
use Rattle.std.specs.declared.result.Result.TheVariants.{Ok, Err}
use Rattle.theory.specs.Files.{number_limit}
use Rattle.theory.specs.Refusals.{Refusal as FirstCause}
use Rattle.theory.specs.TableRefusals.{is_lent, cell_refusal}
use Rattle.theory.specs.Tables.{absent}
use Rattle.cells.specs.Filled.{filled}
use Rattle.refusals.specs.declared.Refusal.{Refusal}
use Rattle.refusals.specs.Given.{given}
use Rattle.runs.specs.Runs.{Run, broken, whole, number_at, behind, numbers_at}

unfoldable pub number_cell : ℕ → ℕ
number_cell x = cond (eqb x 0) absent (x - 1)

pub data TableIn : Type 0 where
  refused : FirstCause → TableIn
  -- the number of its cells, and 8 at the lowest faulty one
  faulty : ℕ → FirstCause → TableIn
  -- the number of its points, and its cells
  sound : ℕ → List ℕ → TableIn

-- a table of N points that was read, by its faulty cell
abbrev pub by_fault : ℕ → List ℕ → Option FirstCause → TableIn
by_fault N t none = sound N t
by_fault N t (some r) = faulty (length t) r

-- the cells' numbers and the place behind them
abbrev pub cells_in : ℕ → ℕ → List ℕ → Run → TableIn
cells_in n N file (broken r) = refused r
cells_in n N file (whole xs q) =
    cond (ltb q (length file)) (refused (record { number = 12; place = q }))
    (by_fault N (map number_cell xs) (cell_refusal n N (map number_cell xs)))

-- the number of points at p, and what follows it: no number is beyond the limit, so a run is broken by 10 alone
abbrev pub points_in : ℕ → ℕ → List ℕ → ℕ → Option ℕ → TableIn
points_in n cells file p none = refused (record { number = 10; place = p })
points_in n cells file p (some N) =
    cond (is_lent n N cells) (cells_in n N file (numbers_at (number_limit + 1) file (behind p N) (N * (2 * n))))
    (refused (record { number = 6; place = 0 }))

unfoldable pub table_in : ℕ → ℕ → List ℕ → ℕ → TableIn
table_in n cells file p = points_in n cells file p (number_at file p)

abbrev pub read_for : TableIn → Result ℕ Refusal
read_for (refused r) = Err (given r)
read_for (faulty count r) = Err (given r)
read_for (sound N t) = Ok N

abbrev pub table_for : List ℕ → TableIn → List ℕ
table_for table (refused r) = table
table_for table (faulty count r) = filled count absent table
table_for table (sound N t) = t ++ drop (length t) table

pub record TableOutcome (n : ℕ) (file : List ℕ) (p : ℕ) (table : List ℕ) (r : Result ℕ Refusal) (after : List ℕ) : Type 0 where
  pub answer : r ≡ read_for (table_in n (length table) file p)
  pub cells : after ≡ table_for table (table_in n (length table) file p)
