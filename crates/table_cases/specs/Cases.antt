-- The numbers of a stored case, and the lent cells that its run leaves, cited by this program's contracts.
--   case_of head     == the case that a head's bytes stand for
--   rest_of head     == how many bytes follow a head: codes of two tables, and a query
--   asked_cells      == the work cells once a case is asked: op 2 asks `member`, the others leave them
--   fits            == the tables, the work cells and the body are as long as the case says
--   CaseRun         <-> a case that fits puts its tables' cells, and asks on its own work cells, each 777 before; another leaves all
-- Assumes nothing.
use Rattle.std.specs.Prelude.{◌≡◌, Bool, cond, ◌&&◌, List, ◌++◌, map, ℕ, ◌+◌, eqb, leb, length, get_or, take, drop, replicate}
use Rattle.case_codes.specs.Codes.{number_of, cell_of, cells_of}
use Rattle.members.specs.Members.{cells_after}
use Rattle.table_cases.specs.declared.Case.{Case}

abbrev pub case_of : List ℕ → Case
case_of head =
    record {
      op = get_or head 0 0;
      n = number_of (get_or head 1 0);
      points = number_of (get_or head 2 0);
      count = get_or head 3 0;
      second_n = number_of (get_or head 4 0);
      second_points = number_of (get_or head 5 0);
      second_count = get_or head 6 0;
      size = get_or head 8 0;
    }

abbrev pub rest_of : List ℕ → ℕ
rest_of head = get_or head 3 0 + get_or head 6 0 + get_or head 7 0

abbrev pub asked_cells : Case → List ℕ → List ℕ → List ℕ → List ℕ
asked_cells c table query work = cond (eqb c.op 2) (cells_after c.n c.points table query work) work

abbrev pub fits : Case → List ℕ → List ℕ → List ℕ → List ℕ → Bool
fits c body first second work =
    leb c.count (length first) && (leb c.second_count (length second) && (leb c.size (length work) && leb (c.count + c.second_count) (length body)))

-- the work cells of a case that fits: its own as they are once asked, the others as they were
abbrev pub work_after : Case → List ℕ → List ℕ → List ℕ
work_after c body work =
    asked_cells c (map cell_of (take c.count body)) (drop (c.count + c.second_count) body) (replicate c.size 777) ++ drop c.size work

pub record CaseRun (c : Case) (body first second work first' second' work' : List ℕ) : Type 0 where
  pub first_cells : first' ≡ cond (fits c body first second work) (cells_of (take c.count body) first) first
  pub second_cells : second' ≡ cond (fits c body first second work) (cells_of (take c.second_count (drop c.count body)) second) second
  pub work_cells : work' ≡ cond (fits c body first second work) (work_after c body work) work
