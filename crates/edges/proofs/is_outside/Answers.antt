-- `edges::is_outside` meets its contract. A loop, an edge to a smaller point, or one to a greater (`StepLaws`).
-- Assumes nothing.
use Rattle.tables.proofs.LentLaws.{sound}
use Rattle.edges.proofs.StepLaws.{outside_loop, outside_back, outside_forth}
use native.Mathlib.Omega.{arith}
use Rattle.edges.proofs.is_outside.Goals as goal

pub returns-then-x-v : goal.returns-then-x-v
returns-then-x-v c = record { outside = outside_loop (sound c.args.t.now) _ _ c.cell_at-x.ensures.cell c.requires.there c.if-x-v.true }

pub returns-then-x-v-2 : goal.returns-then-x-v-2
returns-then-x-v-2 c = record { outside = outside_back (sound c.args.t.now) _ _ c.cell_at-x.ensures.cell c.requires.there (omega (arith, c.if-x-v-2.true)) c.place_back.ensures.back c.step_place.ensures.step }

pub returns : goal.returns
returns c = record { outside = outside_forth (sound c.args.t.now) _ _ c.cell_at-x.ensures.cell c.requires.there (omega (arith, c.if-x-v-2.false)) c.step_place-2.ensures.step }
