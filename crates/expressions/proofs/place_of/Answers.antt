-- `expressions::place_of` meets its contract. The letter is lower-case and the cell is its own, or a capital and the cell is where it leads (`PlaceLaws`).
-- Assumes nothing.
use mathlib.Core.Path.{◌∙◌}
use native.Mathlib.Omega.{arith}
use mir.Syntax.{w32}
use mir.ValLaws.{to_z-of_z}
use Rattle.expressions.proofs.PlaceLaws.{place_small, inverse_in, place_forth, place_back_lem}
use Rattle.expressions.proofs.place_of.Goals as goal

pub returns-then-y-eq0 : goal.returns-then-y-eq0
returns-then-y-eq0 c = record { place = to_z-of_z w32 _ (record { sfits = c.signed.type_inv }) ∙ c.signed.ensures.signed ∙ place_forth _ _ _ _ c.if-y-eq0.true }

pub overflow_add-x : goal.overflow_add-x
overflow_add-x c = omega (arith, c.inverse.ensures.inverse, place_small c.args.t.now.lent c.requires.end (inverse_in _ _ c.requires.letter))

pub overflow_add-x-2 : goal.overflow_add-x-2
overflow_add-x-2 c = omega (arith, c.inverse.ensures.inverse, place_small c.args.t.now.lent c.requires.end (inverse_in _ _ c.requires.letter))

pub signed-requires-2 : goal.signed-requires-2
signed-requires-2 c = omega (arith, c.inverse.ensures.inverse, place_small c.args.t.now.lent c.requires.end (inverse_in _ _ c.requires.letter))

pub returns : goal.returns
returns c = record { place = to_z-of_z w32 _ (record { sfits = c.signed-2.type_inv }) ∙ c.signed-2.ensures.signed ∙ place_back_lem _ _ _ _ c.if-y-eq0.false c.inverse.ensures.inverse }
