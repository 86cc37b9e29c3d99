use Rattle.tables.proofs.LentLaws.{sound}
use Rattle.expressions.proofs.WalkTurn.{walk_first, walk_in, walk_leads, walk_crossed, walk_passed, walk_done}
use Rattle.expressions.proofs.count_crossings.Goals as goal
use Rattle.expressions.proofs.count_crossings.Goals.{then-crossed, else-crossed}

pub loop-y-init : goal.loop-y-init
loop-y-init c = walk_first (sound c.args.t.now) c.requires

pub is_outside-crossed-requires-clause-letter : goal.is_outside-crossed-requires-clause-letter
is_outside-crossed-requires-clause-letter c = (walk_in (sound c.args.t.now) c.requires c.loop-y.invariant c.loop-y-test.true).1

pub is_outside-crossed-requires-clause-there : goal.is_outside-crossed-requires-clause-there
is_outside-crossed-requires-clause-there c = walk_leads (sound c.args.t.now) c.requires c.loop-y.invariant c.loop-y-test.true

pub cell_at-v-requires-clause-letter : goal.cell_at-v-requires-clause-letter
cell_at-v-requires-clause-letter c = (walk_in (sound c.args.t.now) c.requires c.loop-y.invariant c.loop-y-test.true).1

pub loop-y-preserved : goal.loop-y-preserved
loop-y-preserved c =
    let s = sound c.args.t.now in
    elim c.if-crossed.branch [
      | then-crossed w ↦ rw w.found-is (walk_crossed s c.requires c.loop-y.invariant c.loop-y-test.true c.cell_at-v.ensures.cell c.is_outside-crossed.ensures.outside w.if-crossed.true)
      | else-crossed w ↦ rw w.found-is (walk_passed s c.requires c.loop-y.invariant c.loop-y-test.true c.cell_at-v.ensures.cell c.is_outside-crossed.ensures.outside w.if-crossed.false)
    ]

pub returns : goal.returns
returns c = record { crossings = walk_done (sound c.args.t.now) c.requires c.loop-y.invariant c.loop-y-test.false }
