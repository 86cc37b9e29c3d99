-- `edges::number_of` meets its contract. The last mark up to the row is near, and the number is one more than the edges before (`MarkLaws`).
-- Assumes nothing.
use Rattle.tables.proofs.LentLaws.{sound}
use Rattle.edges.proofs.TallyLaws.{tally_small}
use Rattle.edges.proofs.MarkLaws.{mark_near, found_mark, number_is}
use Rattle.edges.specs.Edges.{tally_before}
use mathlib.Core.Path.{◌∙◌, sym, ap}
use native.Mathlib.Omega.{arith}
use Rattle.edges.proofs.number_of.Goals as goal

pub mark_row-from-requires-clause-mark : goal.mark_row-from-requires-clause-mark
mark_row-from-requires-clause-mark c = (mark_near _ _ c.run_of.ensures.run c.requires.point).0

pub find-requires-clause-room : goal.find-requires-clause-room
find-requires-clause-room c = omega (arith, (mark_near _ _ c.run_of.ensures.run c.requires.point).0, c.requires.room)

pub pass_rows-before-requires-clause-order : goal.pass_rows-before-requires-clause-order
pass_rows-before-requires-clause-order c = omega (arith, c.mark_row-from.ensures.row, (mark_near _ _ c.run_of.ensures.run c.requires.point).1)

pub pass_rows-before-requires-clause-tally : goal.pass_rows-before-requires-clause-tally
pass_rows-before-requires-clause-tally c = c.find.ensures.found ∙ found_mark (sound c.args.t.now) c.args.work.now c.args.marks _ c.requires.marked (mark_near _ _ c.run_of.ensures.run c.requires.point).0 ∙ ap (tally_before _ _ _) (sym c.mark_row-from.ensures.row)

pub overflow_add-result : goal.overflow_add-result
overflow_add-result c = omega (arith, tally_small (sound c.args.t.now) c.pass_cells-sum.ensures.tally c.requires.point c.requires.letter)

pub returns-clause-number : goal.returns-clause-number
returns-clause-number c = omega (arith, number_is (sound c.args.t.now) _ _ c.requires.point c.requires.letter c.requires.edge c.requires.outside c.pass_cells-sum.ensures.tally)

pub returns-clause-some : goal.returns-clause-some
returns-clause-some c = (omega arith, omega (arith, tally_small (sound c.args.t.now) c.pass_cells-sum.ensures.tally c.requires.point c.requires.letter))
