-- `tables::Lent::walk` meets its contract. Each turn of the loops is one of `WalkTurn`.
-- Assumes nothing.
use native.Mathlib.Omega.{arith}
use mathlib.Core.Path.{refl}
use Rattle.tables.proofs.WalkTurn.{head_first, head_turn, head_row, head_stop, head_done}
use Rattle.tables.proofs.Lent.walk.Goals as goal

pub loop-v-init : goal.loop-v-init
loop-v-init c = head_first _ _ _

pub returns-then-is_broken : goal.returns-then-is_broken
returns-then-is_broken c = record { walked = head_stop c.args.self.now.lent c.loop-y.invariant c.loop-v-test.true c.loop-y-test.true c.is_broken.ensures.broken c.if-is_broken.true c.place_of-place.ensures.place c.refuse.ensures.made }

pub loop-y-preserved : goal.loop-y-preserved
loop-y-preserved c = head_turn c.args.self.now.lent c.loop-y.invariant c.loop-v-test.true c.loop-y-test.true c.is_broken.ensures.broken c.if-is_broken.false c.cell_at.ensures.cell c.visit-seen.ensures.visited

pub loop-v-preserved : goal.loop-v-preserved
loop-v-preserved c = head_row c.loop-y.invariant c.loop-v-test.true c.loop-y-test.false

pub returns-after-loop-v : goal.returns-after-loop-v
returns-after-loop-v c = record { walked = head_done c.loop-v.invariant refl (omega (arith, c.loop-v-test.false)) }
