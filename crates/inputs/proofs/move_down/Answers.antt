-- `inputs::move_down` meets its contract, which is that of `copy_within`.
-- Assumes nothing.
use Rattle.inputs.specs.Parsed.{moved_down}
use Rattle.inputs.proofs.move_down.Goals as goal

pub returns-clause-moved : goal.returns-clause-moved
unfolding moved_down
returns-clause-moved c = c.copy_within.ensures.after
