-- `case_codes::cells` meets its contract. The loop: the first i codes are put.
-- Assumes nothing.
use Rattle.std.proofs.Common.{◌≡◌, ◌++◌, map, take, drop}
use Rattle.case_codes.specs.Codes.{cell_of}
use Rattle.case_codes.proofs.cells.Given as goal

abbrev pub invariant-loop-i : goal.invariant-loop-i
invariant-loop-i l = l.out ≡ map cell_of (take l.i l.codes) ++ drop l.i l.initial.out
