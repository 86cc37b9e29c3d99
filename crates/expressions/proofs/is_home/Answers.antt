-- `expressions::is_home` meets its contract. The reading ended at the base (`AnswerLaws`).
-- Assumes nothing.
use Rattle.expressions.proofs.AnswerLaws.{home_said}
use Rattle.expressions.proofs.is_home.Goals as goal

pub returns : goal.returns
returns c = record { home = home_said _ _ _ _ c.read.ensures.reading c.is_at_base.ensures.base }
