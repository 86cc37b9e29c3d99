use Rattle.bases.proofs.PathedLaws.{pathed}
use Rattle.bases.proofs.SumLaws.{rows_first, rows_room, rows_turn}
use Rattle.bases.proofs.Pathed.write_words.Goals as goal

pub loop-v-init : goal.loop-v-init
loop-v-init c = rows_first (pathed c.args.self.now)

pub write_row-at-requires-clause-room : goal.write_row-at-requires-clause-room
write_row-at-requires-clause-room c = rows_room (pathed c.args.self.now) c.loop-v.invariant c.loop-v-test.true c.requires.room

pub loop-v-preserved : goal.loop-v-preserved
loop-v-preserved c = rows_turn (pathed c.args.self.now) c.loop-v.invariant c.loop-v-test.true c.write_row-at.ensures.text c.write_row-at.ensures.end
