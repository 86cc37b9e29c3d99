use mathlib.Core.Path.{◌≡◌}
use Rattle.rooms.proofs.RoomLaws.{same_first, same_then}
use Rattle.drains.proofs.DrainTurn.{head_first, head_less, head_turn, head_done}
use native.Mathlib.Omega.{arith}
use Rattle.drains.proofs.drain.Goals as goal

pub loop-fold-init : goal.loop-fold-init
loop-fold-init c = (same_first, head_first c.requires)

pub turn-requires-clause-fit : goal.turn-requires-clause-fit
turn-requires-clause-fit c = rw c.loop-fold.invariant.0.room c.loop-fold.invariant.1.fit

pub loop-fold-smaller : goal.loop-fold-smaller
loop-fold-smaller c = head_less c.loop-fold.invariant.1 c.loop-fold-test.true (rw c.loop-fold.invariant.0.room at c.turn.ensures.turned)

pub loop-fold-preserved : goal.loop-fold-preserved
loop-fold-preserved c = (
  same_then c.loop-fold.invariant.0 c.turn.ensures.kept,
  head_turn c.loop-fold.invariant.1 c.loop-fold-test.true (rw c.loop-fold.invariant.0.room at c.turn.ensures.turned),
)

pub returns-clause-drained : goal.returns-clause-drained
returns-clause-drained c =
    let e : c.loop-fold.fold.pending ≡ 0 = omega (arith, c.loop-fold-test.false) in
    rw e (head_done c.loop-fold.invariant.1 e)
