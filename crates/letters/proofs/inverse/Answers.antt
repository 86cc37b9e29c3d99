-- `letters::inverse` meets its contract. Both arms are arithmetic.
-- Assumes nothing.
use Rattle.std.proofs.Common.{rules}
use Rattle.theory.specs.Words.{inv}
use Rattle.letters.proofs.inverse.Goals as goal

pub returns-then-y-eq0 : goal.returns-then-y-eq0
unfolding inv
returns-then-y-eq0 c = search rules

pub returns-else-y-eq0 : goal.returns-else-y-eq0
unfolding inv
returns-else-y-eq0 c = search rules
