use Rattle.bases.proofs.PathedLaws.{pathed}
use Rattle.bases.proofs.SumLaws.{sum_first, sum_small, sum_turn, sum_done}
use Rattle.bases.proofs.Pathed.add_row.Goals as goal

pub loop-y-init : goal.loop-y-init
loop-y-init c = sum_first (pathed c.args.self.now) c.requires.point c.requires.small

pub add_word-sum-requires-clause-small : goal.add_word-sum-requires-clause-small
add_word-sum-requires-clause-small c = sum_small (pathed c.args.self.now) c.requires.point c.requires.small c.loop-y.invariant

pub loop-y-preserved : goal.loop-y-preserved
loop-y-preserved c = sum_turn (pathed c.args.self.now) c.requires.point c.requires.small c.loop-y.invariant c.loop-y-test.true c.add_word-sum.ensures.size

pub returns : goal.returns
returns c = record { size = sum_done (pathed c.args.self.now) c.requires.point c.requires.small c.loop-y.invariant c.loop-y-test.false }
