use Rattle.members.proofs.ReadTurn.{head_turn, head_stop, head_end_lem}
use Rattle.members.proofs.read.Goals as goal

pub returns-then-x : goal.returns-then-x
returns-then-x c = record { reading = head_stop c.loop-i.invariant c.loop-i-test.true c.step-x.ensures.leads c.if-x.true }

pub loop-i-preserved : goal.loop-i-preserved
loop-i-preserved c = head_turn c.loop-i.invariant c.loop-i-test.true c.step-x.ensures.leads (c.step-x.ensures.within c.if-x.false) c.if-x.false

pub returns : goal.returns
returns c = record { reading = head_end_lem c.loop-i.invariant c.loop-i-test.false }
