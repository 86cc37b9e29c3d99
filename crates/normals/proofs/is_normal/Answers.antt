use mathlib.Core.Path.{◌∙◌}
use native.Mathlib.Omega.{arith}
use Rattle.normals.proofs.BaseTurn.{asked_done, asked_no, images_clear}
use Rattle.normals.proofs.is_normal.Goals as goal

pub passes-requires-clause-clear : goal.passes-requires-clause-clear
passes-requires-clause-clear c = images_clear _ _ c.requires.room (c.loop-letter.invariant.1 ∙ c.fill.ensures.filled)

pub returns-then-not-passes-clause-normal : goal.returns-then-not-passes-clause-normal
returns-then-not-passes-clause-normal c = asked_no _ _ _ (omega arith) c.passes.ensures.passes c.if-not-passes.true

pub returns-clause-normal : goal.returns-clause-normal
returns-clause-normal c = asked_done _ _ _ c.loop-letter.invariant.0 c.loop-letter-test.false
