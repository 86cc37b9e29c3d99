use native.Mathlib.Omega.{arith}
use Rattle.decimals.proofs.WriteTurn.{head_first, head_turn, head_done}
use Rattle.decimals.proofs.write_digits.Goals as goal

pub loop-i-init : goal.loop-i-init
loop-i-init c = head_first _ _ _ c.requires.0

pub loop-i-preserved : goal.loop-i-preserved
loop-i-preserved c = head_turn c.loop-i.invariant c.loop-i-test.true (omega arith)

pub returns : goal.returns
returns c = record { cells = head_done c.loop-i.invariant c.loop-i-test.false }
