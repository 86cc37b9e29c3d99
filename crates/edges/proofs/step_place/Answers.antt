-- `edges::step_place` meets its contract. The least place back (`StepLaws`).
-- Assumes nothing.
use Rattle.tables.proofs.LentLaws.{sound}
use Rattle.edges.proofs.StepLaws.{least_turn, least_done, base_place}
use mathlib.Core.Path.{refl}
use Rattle.edges.proofs.step_place.Goals as goal

pub returns-then-x-eq0 : goal.returns-then-x-eq0
returns-then-x-eq0 c = record { step = base_place (sound c.args.t.now) refl c.if-x-eq0.true }

pub loop-z-preserved : goal.loop-z-preserved
loop-z-preserved c = rw c.min-least.ensures (least_turn _ _ _ _ c.loop-z.invariant c.place_back.ensures.back)

pub returns : goal.returns
returns c = record { step = least_done (sound c.args.t.now) c.loop-z.invariant c.loop-z-test.false c.requires.point c.if-x-eq0.false }
