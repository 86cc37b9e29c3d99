-- `edges::mark` meets its contract. A turn of the loop leaves a mark more (`MarkLaws`).
-- Assumes nothing.
use Rattle.tables.proofs.LentLaws.{sound}
use Rattle.edges.proofs.MarkLaws.{marking_first, marking_rows, marking_turn}
use Rattle.edges.proofs.mark.Goals as goal

pub loop-j-init : goal.loop-j-init
loop-j-init c = marking_first (sound c.args.t.now)

pub pass_rows-tally-requires-clause-order : goal.pass_rows-tally-requires-clause-order
pass_rows-tally-requires-clause-order c = (marking_rows (sound c.args.t.now) c.loop-j.invariant c.mark_row-to.ensures.row).0

pub pass_rows-tally-requires-clause-rows : goal.pass_rows-tally-requires-clause-rows
pass_rows-tally-requires-clause-rows c = (marking_rows (sound c.args.t.now) c.loop-j.invariant c.mark_row-to.ensures.row).1

pub loop-j-preserved : goal.loop-j-preserved
loop-j-preserved c = marking_turn (sound c.args.t.now) c.loop-j.invariant c.mark_row-to.ensures.row c.loop-j-test.true c.requires.room c.pass_rows-tally.ensures.tally c.leave.ensures.left
