-- `lists::beyond` meets its contract. Both arms are the test of the definition.
-- Assumes nothing.
use borrow.Author.Tests.{le-leb, lt-leb}
use Rattle.lists.specs.Scans.{beyond_draws}
use Rattle.lists.proofs.beyond.Goals as goal

pub returns-then-g-n : goal.returns-then-g-n
unfolding beyond_draws
returns-then-g-n c = record { draws = simp (le-leb _ _ c.if-g-n.true) }

pub returns-else-g-n : goal.returns-else-g-n
unfolding beyond_draws
returns-else-g-n c = record { draws = simp (lt-leb _ _ c.if-g-n.false) }
