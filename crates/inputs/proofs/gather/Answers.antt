use native.Mathlib.Omega.{arith}
use Rattle.inputs.proofs.GatherTurn.{gather_first, gather_asks, gather_turn, gather_less, gather_size, gather_done}
use Rattle.inputs.proofs.gather.Goals as goal

pub loop-at-init : goal.loop-at-init
loop-at-init c = gather_first c.requires

pub loop-at-preserved : goal.loop-at-preserved
loop-at-preserved c = gather_turn c.loop-at.invariant c.loop-at-test.true c.next_start-next.ensures.next c.move_down-list.ensures.place c.move_down-list.ensures.moved

pub move_down-list-requires : goal.move_down-list-requires
move_down-list-requires c =
    let line = gather_asks c.loop-at.invariant c.loop-at-test.true c.next_start-next.ensures.next in
    (omega (arith, c.loop-at.invariant.low), omega (arith, line.1), line.2)

pub loop-at-smaller : goal.loop-at-smaller
loop-at-smaller c = gather_less c.loop-at.invariant c.loop-at-test.true c.next_start-next.ensures.next

pub returns : goal.returns
returns c = record { size = gather_size c.loop-at.invariant c.loop-at-test.false; text = gather_done c.loop-at.invariant c.loop-at-test.false }
