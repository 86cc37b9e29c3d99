use Rattle.bases.proofs.PathedLaws.{pathed}
use Rattle.bases.proofs.SumLaws.{sums_first, sums_turn}
use Rattle.bases.proofs.Pathed.measure.Goals as goal

pub loop-v-init : goal.loop-v-init
loop-v-init c = sums_first (pathed c.args.self.now)

pub loop-v-preserved : goal.loop-v-preserved
loop-v-preserved c = sums_turn (pathed c.args.self.now) c.loop-v.invariant c.loop-v-test.true c.add_row-size.ensures.size
