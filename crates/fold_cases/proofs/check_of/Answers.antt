use native.Mathlib.Omega.{arith}
use Rattle.fold_cases.proofs.CaseLaws.{checked_first, checked_turn, checked_done}
use Rattle.fold_cases.proofs.check_of.Goals as goal

pub loop-x-init : goal.loop-x-init
loop-x-init c = checked_first _

pub loop-x-preserved : goal.loop-x-preserved
loop-x-preserved c = rw c.from.ensures (checked_turn c.loop-x.invariant (omega arith))

pub returns : goal.returns
returns c = record { check = checked_done c.loop-x.invariant (omega arith) }
