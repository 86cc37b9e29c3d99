-- The numbers of a stored list, its check numbers, and the lent cells that its run leaves, cited by this program's contracts.
--   four_of head at == the number of four bytes, the least first
--   case_of head    == the numbers that a head's bytes stand for
--   check_of cells  == h = 0, then h = (h × 31 + x) % 4,294,967,291 for each cell x
--   FoldRun        <-> the cells are those of an outcome that `fold` promises
--   CaseRun        <-> a case that fits is folded on its own cells, each 777 before, and leaves the others; another leaves all
-- Assumes nothing.
use Rattle.std.specs.Prelude.{◌≡◌, Bool, true, false, ◌&&◌, List, [], ◌∷◌, ◌++◌, ℕ, ◌+◌, ◌*◌, ◌%◌, leb, length, get_or, drop, replicate}
use Rattle.std.specs.declared.result.Result.{Result}
use Rattle.refusals.specs.declared.Refusal.{Refusal}
use Rattle.folds.specs.declared.FoldFigures.{FoldFigures}
use Rattle.folds.specs.Folds.{FoldOutcome}
use Rattle.fold_cases.specs.declared.Case.{Case}

unfoldable pub four_of : List ℕ → ℕ → ℕ
four_of head at =
    (get_or head at 0 + 256 * get_or head (at + 1) 0) + 65536 * (get_or head (at + 2) 0 + 256 * get_or head (at + 3) 0)

unfoldable pub case_of : List ℕ → Case
case_of head =
    record {
      n = four_of head 0 + 4294967296 * four_of head 4;
      bytes = four_of head 8;
      count = four_of head 12;
      size = four_of head 16;
    }

-- the check number of cells after those that gave h
unfoldable pub check_from : ℕ → List ℕ → ℕ
check_from h [] = h
check_from h (x ∷ cells) = check_from ((h * 31 + x) % 4294967291) cells

unfoldable pub check_of : List ℕ → ℕ
check_of cells = check_from 0 cells

abbrev pub FoldRun : ℕ → List ℕ → List ℕ → List ℕ → List ℕ → List ℕ → Type 0
FoldRun n list table work table' work' = (o : Result FoldFigures Refusal) × FoldOutcome n list table work o table' work'

unfoldable pub fits : Case → List ℕ → List ℕ → Bool
fits c table work = leb c.count (length table) && leb c.size (length work)

-- a case that fits, on its own cells
pub record Folds (c : Case) (list table work table' work' : List ℕ) : Type 0 where
  pub table_cells : List ℕ
  pub work_cells : List ℕ
  pub run : FoldRun c.n list (replicate c.count 777) (replicate c.size 777) table_cells work_cells
  pub table_after : table' ≡ table_cells ++ drop c.count table
  pub work_after : work' ≡ work_cells ++ drop c.size work

abbrev pub RunFor : Bool → Case → List ℕ → List ℕ → List ℕ → List ℕ → List ℕ → Type 0
RunFor true c list table work table' work' = Folds c list table work table' work'
RunFor false c list table work table' work' = (table' ≡ table) × (work' ≡ work)

abbrev pub CaseRun : Case → List ℕ → List ℕ → List ℕ → List ℕ → List ℕ → Type 0
CaseRun c list table work table' work' = RunFor (fits c table work) c list table work table' work'
