use Rattle.takes.proofs.ReadTurn.{front_next, front_stop, front_done}
use Rattle.takes.proofs.read_front.Goals as goal

pub returns-then-x : goal.returns-then-x
returns-then-x c = record { front = front_stop c.requires c.loop-i.invariant c.loop-i-test.true c.cell_at-x.ensures.leads c.if-x.true }

pub loop-i-preserved : goal.loop-i-preserved
loop-i-preserved c = front_next c.requires c.loop-i.invariant c.loop-i-test.true c.cell_at-x.ensures.leads c.if-x.false

pub returns : goal.returns
returns c = record { front = front_done c.requires c.loop-i.invariant c.loop-i-test.false }
