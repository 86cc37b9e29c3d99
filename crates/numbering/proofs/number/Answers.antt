use Rattle.numbering.proofs.NumberTurn.{head_first, head_turn, head_done}
use Rattle.numbering.proofs.number.Goals as goal

pub loop-v-init : goal.loop-v-init
loop-v-init c = head_first c.requires.ready c.requires.roomed c.requires.le_room

pub loop-v-preserved : goal.loop-v-preserved
loop-v-preserved c = head_turn c.loop-v.invariant c.loop-v-test.true c.number_row-met.ensures.named

pub returns : goal.returns
returns c = record { numbered = head_done c.loop-v.invariant c.loop-v-test.false }
