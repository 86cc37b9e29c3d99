-- `fold_cases::check_of` meets its contract. The loop: the cells so far gave h (`CaseLaws`).
-- Assumes nothing.
use Rattle.fold_cases.proofs.CaseLaws.{Checked}
use Rattle.fold_cases.proofs.check_of.Given as goal

abbrev pub invariant-loop-x : goal.invariant-loop-x
invariant-loop-x l = Checked l.cells l.h l.x-index
