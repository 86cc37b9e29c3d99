-- `cells_size` meets its contract: the loop holds `Sizing` of the cells from x on.
-- Assumes nothing.
use mathlib.Core.List.{map}
use lib.ListN.{drop}
use Rattle.theory.specs.Files.{cell_number}
use Rattle.saves.proofs.RunLaws.{Sizing}
use Rattle.saves.proofs.cells_size.Given as goal

abbrev pub invariant-loop-x : goal.invariant-loop-x
invariant-loop-x l = Sizing (map cell_number l.cells) (drop l.x-index (map cell_number l.cells)) l.size
