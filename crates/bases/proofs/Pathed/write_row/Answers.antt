use Rattle.bases.proofs.PathedLaws.{pathed}
use Rattle.bases.proofs.SumLaws.{lines_first, lines_room, lines_turn, lines_done}
use Rattle.bases.proofs.Pathed.write_row.Goals as goal

pub loop-y-init : goal.loop-y-init
loop-y-init c = lines_first (pathed c.args.self.now)

pub write_word-to-requires-clause-room : goal.write_word-to-requires-clause-room
write_word-to-requires-clause-room c = lines_room (pathed c.args.self.now) c.loop-y.invariant c.loop-y-test.true c.requires.room

pub loop-y-preserved : goal.loop-y-preserved
loop-y-preserved c = lines_turn (pathed c.args.self.now) c.loop-y.invariant c.loop-y-test.true c.write_word-to.ensures.text c.write_word-to.ensures.end

pub returns : goal.returns
returns c = let all = lines_done (pathed c.args.self.now) c.loop-y.invariant c.loop-y-test.false in record { text = all.0; end = all.1 }
