use Rattle.numbers.proofs.WriteTurn.{head_room, head_turn, head_done}
use native.Mathlib.Omega.{arith}
use Rattle.numbers.proofs.write_number.Goals as goal

pub bounds-out-i : goal.bounds-out-i
bounds-out-i c = head_room c.loop-rest.invariant

pub loop-rest-preserved : goal.loop-rest-preserved
loop-rest-preserved c = head_turn c.loop-rest.invariant _ c.loop-rest-test.true (omega arith)

pub bounds-out-i-2 : goal.bounds-out-i-2
bounds-out-i-2 c = head_room c.loop-rest.invariant

pub returns : goal.returns
returns c = record { written = head_done c.loop-rest.invariant _ (omega (arith, c.loop-rest-test.false)) (omega arith) }
