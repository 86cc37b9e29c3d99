-- `bases::Pathed::is_outside` meets its contract. A capital, an absent cell, a step forth, or one back (`PathedLaws`).
-- Assumes nothing.
use Rattle.bases.proofs.PathedLaws.{pathed, outside_capital, outside_absent, outside_forth, outside_back}
use Rattle.bases.proofs.Pathed.is_outside.Goals as goal

pub returns-then-y-ne0 : goal.returns-then-y-ne0
returns-then-y-ne0 c = record { outside = outside_capital (pathed c.args.self.now) _ _ c.if-y-ne0.true }

pub returns-then-x : goal.returns-then-x
returns-then-x c = record { outside = outside_absent (pathed c.args.self.now) _ _ c.cell_at-x.ensures.cell c.if-y-ne0.false c.if-x.true }

pub returns-then-is_step : goal.returns-then-is_step
returns-then-is_step c = record { outside = outside_forth (pathed c.args.self.now) _ _ c.cell_at-x.ensures.cell c.if-y-ne0.false c.if-x.false c.is_step.ensures.step c.if-is_step.true }

pub returns : goal.returns
returns c = record { outside = outside_back (pathed c.args.self.now) _ _ c.cell_at-x.ensures.cell c.if-y-ne0.false c.if-x.false c.requires.point c.is_step.ensures.step c.if-is_step.false c.inverse.ensures.inverse c.is_step-2.ensures.step }
