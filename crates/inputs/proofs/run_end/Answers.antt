use Rattle.inputs.proofs.RunTurn.{head_turn, head_less, head_stop, head_end_lem}
use Rattle.inputs.proofs.run_end.Goals as goal

pub returns-then-input-at : goal.returns-then-input-at
returns-then-input-at c = record { end = head_stop c.loop-at.invariant c.loop-at-test.true c.if-input-at.true }

pub loop-at-smaller : goal.loop-at-smaller
loop-at-smaller c = head_less _ c.loop-at-test.true c.if-input-at.false c.next_start-at.ensures.next

pub loop-at-preserved : goal.loop-at-preserved
loop-at-preserved c = head_turn c.loop-at.invariant c.loop-at-test.true c.if-input-at.false c.next_start-at.ensures.next

pub returns : goal.returns
returns c = record { end = head_end_lem c.loop-at.invariant c.loop-at-test.false }
