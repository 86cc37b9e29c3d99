use native.Mathlib.Omega.{arith}
use lib.ListN.{length-set}
use Rattle.rooms.proofs.FindLaws.{head_room, head_low, head_two, head_turn, head_done}
use Rattle.rooms.proofs.find.Goals as goal

pub bounds-work-next : goal.bounds-work-next
bounds-work-next c = omega (arith, head_low c.loop-next.invariant, c.loop-next.invariant.inside, head_room c.loop-next.invariant)

pub bounds-work-at-in-loop-next-2 : goal.bounds-work-at-in-loop-next-2
bounds-work-at-in-loop-next-2 c = simp length-set (omega (arith, head_two c.loop-next.invariant, head_low c.loop-next.invariant, c.loop-next.invariant.inside, head_room c.loop-next.invariant))

pub loop-next-smaller : goal.loop-next-smaller
loop-next-smaller c = omega (arith, head_two c.loop-next.invariant, head_low c.loop-next.invariant, c.loop-next-test.true)

pub loop-next-preserved : goal.loop-next-preserved
loop-next-preserved c = head_turn c.loop-next.invariant c.loop-next-test.true

pub returns : goal.returns
returns c = record { found = head_done c.loop-next.invariant c.loop-next-test.false }
