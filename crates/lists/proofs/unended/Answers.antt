-- `lists::unended` meets its contract: the last byte, if there is one.
-- Assumes nothing.
use Rattle.std.proofs.Common.{arith}
use Rattle.std.proofs.lemmas.Grind.{common_steps}
use Rattle.std.proofs.lemmas.Option.{gets}
use Rattle.theory.specs.Refusals.{is_unended}
use Rattle.lists.proofs.unended.Goals as goal

pub returns : goal.returns
unfolding is_unended
returns c = grind (arith, common_steps, gets)
