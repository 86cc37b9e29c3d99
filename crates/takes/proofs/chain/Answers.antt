use native.Mathlib.Omega.{arith}
use Rattle.rooms.proofs.RoomLaws.{held_then}
use Rattle.takes.proofs.ChainTurn.{head_grows, head_turn}
use Rattle.takes.proofs.chain.Goals as goal

pub grow-at-requires : goal.grow-at-requires
grow-at-requires c = rw c.loop-i.invariant.0.room (head_grows c.loop-i.invariant.1 (omega arith))

pub loop-i-preserved : goal.loop-i-preserved
loop-i-preserved c = (
  held_then c.loop-i.invariant.0 c.grow-at.ensures.held,
  rw (c.grow-at.ensures.made, c.grow-at.ensures.point)
      (head_turn c.loop-i.invariant.1 (omega arith) (rw c.loop-i.invariant.0.room at c.grow-at.ensures.grown)),
)
