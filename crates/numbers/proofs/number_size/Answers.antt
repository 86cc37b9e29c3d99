use Rattle.numbers.proofs.NumberLaws.{head_low, head_turn, head_done}
use native.Mathlib.Omega.{arith}
use Rattle.numbers.proofs.number_size.Goals as goal

pub overflow_add-size : goal.overflow_add-size
overflow_add-size c = record { fits = omega (arith, head_low c.loop-rest.invariant) }

pub loop-rest-preserved : goal.loop-rest-preserved
loop-rest-preserved c = head_turn c.loop-rest.invariant c.loop-rest-test.true

pub returns : goal.returns
returns c = record { size = head_done c.loop-rest.invariant (omega (arith, c.loop-rest-test.false)) }
