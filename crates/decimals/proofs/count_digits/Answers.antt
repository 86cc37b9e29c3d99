use native.Mathlib.Omega.{arith}
use Rattle.decimals.proofs.CountTurn.{head_first, head_turn, head_done}
use Rattle.decimals.proofs.count_digits.Goals as goal

pub loop-rest-init : goal.loop-rest-init
loop-rest-init c = head_first _ _ (omega arith) (omega arith)

pub loop-rest-preserved : goal.loop-rest-preserved
loop-rest-preserved c = head_turn c.loop-rest.invariant (omega arith)

pub returns : goal.returns
returns c = record { count = head_done c.loop-rest.invariant (omega arith) }
