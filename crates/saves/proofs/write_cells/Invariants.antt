-- `write_cells` meets its contract: the loop holds `Run` of the cells from x on.
-- Assumes nothing.
use mathlib.Core.List.{map}
use lib.ListN.{drop}
use Rattle.theory.specs.Files.{cell_number}
use Rattle.saves.proofs.RunLaws.{Run}
use Rattle.saves.proofs.write_cells.Given as goal

abbrev pub invariant-loop-x : goal.invariant-loop-x
invariant-loop-x l = Run (map cell_number l.cells) (drop l.x-index (map cell_number l.cells)) l.at l.initial.out l.out l.p
