-- `expressions::write_place` meets its contract. A path uses the edge and nothing is written, or its place is (`WalkTurn`).
-- Assumes nothing.
use native.Mathlib.Omega.{arith}
use Rattle.tables.proofs.LentLaws.{sound}
use Rattle.expressions.proofs.WalkTurn.{next_passed, place_passed, next_stored, place_stored}
use Rattle.expressions.proofs.write_place.Goals as goal

pub returns-then-not-is_outside : goal.returns-then-not-is_outside
returns-then-not-is_outside c =
    let s = sound c.args.t.now in
    record {
      next = next_passed s _ _ _ c.is_outside.ensures.outside c.if-not-is_outside.true;
      written = place_passed s _ _ _ c.is_outside.ensures.outside _ c.if-not-is_outside.true;
    }

pub bounds-out-at : goal.bounds-out-at
bounds-out-at c = omega (arith, next_stored (sound c.args.t.now) _ _ c.args.at c.is_outside.ensures.outside c.if-not-is_outside.false, c.requires.room)

pub returns : goal.returns
returns c =
    let s = sound c.args.t.now in
    record {
      next = next_stored s _ _ _ c.is_outside.ensures.outside c.if-not-is_outside.false;
      written = place_stored s _ _ _ c.is_outside.ensures.outside _ c.if-not-is_outside.false c.requires.leads (record { sfits = c.place_of.type_inv }) c.place_of.ensures.place;
    }
