use Rattle.folds.proofs.WordsTurn.{head_first, head_asks, head_turn, head_small, head_made, head_done}
use Rattle.rooms.proofs.RoomLaws.{held_first, held_then}
use Rattle.lists.proofs.CountTurn.{next_further}
use native.Mathlib.Omega.{arith}
use Rattle.folds.proofs.take_words.Goals as goal

pub loop-at-init : goal.loop-at-init
loop-at-init c = (held_first, c.requires.settled, head_first c.requires.prepared)

pub take_in-left-requires : goal.take_in-left-requires
take_in-left-requires c = record {
  takeable = rw c.loop-at.invariant.0.room (head_asks c.loop-at.invariant.2 c.loop-at-test.true);
  settled = c.loop-at.invariant.1;
}

pub loop-at-preserved : goal.loop-at-preserved
loop-at-preserved c = (
  held_then c.loop-at.invariant.0 c.take_in-left.ensures.held,
  c.take_in-left.ensures.settles,
  head_turn c.loop-at.invariant.2 c.loop-at-test.true (rw c.loop-at.invariant.0.room at c.take_in-left.ensures.taken) c.new_points-points.ensures.new
      c.next_start-at.ensures.next,
)

pub overflow_add-points : goal.overflow_add-points
overflow_add-points c =
    let t = rw c.loop-at.invariant.0.room at c.take_in-left.ensures.taken in
    record { fits = omega (arith, (head_small c.loop-at.invariant.2 c.loop-at-test.true t c.new_points-points.ensures.new).0) }

pub overflow_add-edges : goal.overflow_add-edges
overflow_add-edges c =
    let t = rw c.loop-at.invariant.0.room at c.take_in-left.ensures.taken in
    record { fits = omega (arith, (head_small c.loop-at.invariant.2 c.loop-at-test.true t c.new_points-points.ensures.new).1) }

pub loop-at-smaller : goal.loop-at-smaller
loop-at-smaller c = next_further _ _ _ c.loop-at-test.true c.next_start-at.ensures.next

pub returns-clause-settles : goal.returns-clause-settles
returns-clause-settles c = c.loop-at.invariant.1

pub returns-clause-made : goal.returns-clause-made
returns-clause-made c = head_made c.loop-at.invariant.2 c.loop-at-test.false

pub returns-clause-words : goal.returns-clause-words
returns-clause-words c = head_done c.loop-at.invariant.2 c.loop-at-test.false
