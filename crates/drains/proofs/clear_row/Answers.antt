use Rattle.rooms.proofs.RoomLaws.{same_first, same_then}
use Rattle.drains.proofs.ClearTurn.{head_first, head_usable, head_turn, head_done}
use Rattle.drains.proofs.clear_row.Goals as goal

pub loop-y-init : goal.loop-y-init
loop-y-init c = (same_first, head_first c.requires)

pub move_edge-requires-clause-usable : goal.move_edge-requires-clause-usable
move_edge-requires-clause-usable c = rw c.loop-y.invariant.0.room (head_usable c.requires c.loop-y.invariant.1)

pub loop-y-preserved : goal.loop-y-preserved
loop-y-preserved c = (
  same_then c.loop-y.invariant.0 c.move_edge.ensures.kept,
  head_turn c.requires c.loop-y.invariant.1 c.loop-y-test.true (rw c.loop-y.invariant.0.room at c.move_edge.ensures.moved),
)

pub returns-clause-cleared : goal.returns-clause-cleared
returns-clause-cleared c = head_done c.requires c.loop-y.invariant.1 c.loop-y-test.false
