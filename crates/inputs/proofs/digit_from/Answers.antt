-- `inputs::digit_from` meets its contract, test by test.
-- Assumes nothing.
use Rattle.std.proofs.Common.{arith}
use Rattle.std.proofs.lemmas.Grind.{common_steps}
use Rattle.inputs.specs.Parsed.{digit_from}
use Rattle.inputs.proofs.digit_from.Goals as goal

pub returns-then-b-low : goal.returns-then-b-low
unfolding digit_from
returns-then-b-low c = grind (arith, common_steps)

pub returns : goal.returns
unfolding digit_from
returns c = grind (arith, common_steps)
