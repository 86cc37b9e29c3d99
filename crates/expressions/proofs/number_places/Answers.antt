use Rattle.expressions.proofs.WalkTurn.{next_at, next_numbered}
use Rattle.expressions.proofs.number_places.Goals as goal

pub number_at-requires-clause-place : goal.number_at-requires-clause-place
number_at-requires-clause-place c = next_at _ _ _ _ _ _ _ _ c.loop-z.invariant c.requires.places c.loop-z-test.true

pub loop-z-preserved : goal.loop-z-preserved
loop-z-preserved c = next_numbered _ _ _ _ _ _ _ _ c.loop-z.invariant c.requires.places c.loop-z-test.true c.loop-z.auto.z-items (record { sfits = c.number_at.type_inv }) c.number_at.ensures.number
