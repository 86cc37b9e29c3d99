use native.Mathlib.Omega.{arith}
use Rattle.tables.proofs.LentLaws.{sound}
use Rattle.expressions.proofs.WalkTurn.{walk_in, walk_there, walk_room, writing_first, writing_turn, writing_done}
use Rattle.expressions.proofs.write_places.Goals as goal

pub loop-y-init : goal.loop-y-init
loop-y-init c = writing_first (sound c.args.t.now) c.requires.home

pub cell_at-x-requires-clause-letter : goal.cell_at-x-requires-clause-letter
cell_at-x-requires-clause-letter c = (walk_in (sound c.args.t.now) c.requires.home c.loop-y.invariant.walk c.loop-y-test.true).1

pub write_place-at-requires : goal.write_place-at-requires
write_place-at-requires c =
    let s = sound c.args.t.now in
    let w = walk_in s c.requires.home c.loop-y.invariant.walk c.loop-y-test.true in
    let there = walk_there s c.requires.home c.loop-y.invariant.walk c.loop-y-test.true c.cell_at-x.ensures.cell in
    record {
      point = w.0;
      letter = w.1;
      leads = c.cell_at-x.ensures.cell;
      there = there;
      end = c.cell_at-x.ensures.within there;
      room = omega (arith, walk_room s c.requires.home c.loop-y.invariant.walk c.loop-y-test.true, c.requires.room);
    }

pub loop-y-preserved : goal.loop-y-preserved
loop-y-preserved c = writing_turn (sound c.args.t.now) c.requires.home c.loop-y.invariant c.loop-y-test.true c.cell_at-x.ensures.cell c.write_place-at.ensures.next c.write_place-at.ensures.written

pub returns : goal.returns
returns c = record { written = writing_done (sound c.args.t.now) c.requires.home c.loop-y.invariant c.loop-y-test.false c.requires.room }
