-- What the parts of `read_table` take and leave, cited by their contracts.
--   Whole run        <-> the run was read to its end
--   cells_of run       == the cells of its numbers
--   run_of file p count == the run of so many numbers of any size, from byte p on
-- Assumes nothing.
use Rattle.std.specs.Prelude.{List, [], map, ℕ, ◌+◌}
use Rattle.theory.specs.Files.{number_limit}
use Rattle.runs.specs.Runs.{Run, broken, whole, numbers_at}
use Rattle.table_files.specs.TableFiles.{number_cell}

abbrev pub Whole : Run → Type 0
Whole (broken r) = ⊥
Whole (whole xs q) = Unit {0}

abbrev pub values_of : Run → List ℕ
values_of (broken r) = []
values_of (whole xs q) = xs

unfoldable pub cells_of : Run → List ℕ
cells_of run = map number_cell (values_of run)

unfoldable pub run_of : List ℕ → ℕ → ℕ → Run
run_of file p count = numbers_at (number_limit + 1) file p count
