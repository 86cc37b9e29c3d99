use mathlib.Core.Path.{refl, sym}
use native.Mathlib.Omega.{arith}
use Rattle.tables.proofs.LentLaws.{sound}
use Rattle.normals.proofs.MapTurn.{follow_first, follow_image, follow_turn, follow_stuck, follow_row, follow_done, behind_same, behind_then, behind_set, behind_turn, behind_cleared}
use Rattle.normals.proofs.leads_back.Goals as goal

pub loop-v-init : goal.loop-v-init
loop-v-init c = (follow_first (sound c.args.t.now) c.requires.point c.args.work.now c.requires.room refl, behind_same)

pub carry-requires-clause-image : goal.carry-requires-clause-image
carry-requires-clause-image c = follow_image (sound c.args.t.now) c.requires.point c.loop-y.invariant.0 c.loop-v-test.true c.loop-y-test.true

pub returns-in_default : goal.returns-in_default
returns-in_default c =
    let s = sound c.args.t.now in
    let follow = c.loop-y.invariant.0 in
    let turned = behind_turn s c.requires.point follow c.loop-v-test.true c.loop-y-test.true c.carry.ensures.met c.carry.ensures.cells in
    record {
      back = sym (follow_stuck s c.requires.point follow c.loop-v-test.true c.loop-y-test.true c.carry.ensures.met c.carry.ensures.cells c.in_default.is);
      cleared = behind_cleared _ _ _ (behind_then (behind_set _ _ _ _ (omega (arith, c.requires.point)) refl) (behind_then c.loop-v.invariant.1 (behind_then c.loop-y.invariant.1 turned))) c.fill.ensures.filled;
    }

pub loop-y-preserved : goal.loop-y-preserved
loop-y-preserved c =
    let s = sound c.args.t.now in
    let follow = c.loop-y.invariant.0 in (
      follow_turn s c.requires.point follow c.loop-v-test.true c.loop-y-test.true c.carry.ensures.met c.carry.ensures.cells c.in-Some.is,
      behind_then c.loop-y.invariant.1 (behind_turn s c.requires.point follow c.loop-v-test.true c.loop-y-test.true c.carry.ensures.met c.carry.ensures.cells),
    )

pub loop-v-preserved : goal.loop-v-preserved
loop-v-preserved c = (follow_row (sound c.args.t.now) c.requires.point c.loop-y.invariant.0 c.loop-v-test.true c.loop-y-test.false, behind_then c.loop-v.invariant.1 c.loop-y.invariant.1)

pub returns : goal.returns
returns c =
    record {
      back = sym (follow_done (sound c.args.t.now) c.requires.point c.loop-v.invariant.0 c.loop-v-test.false);
      cleared = behind_cleared _ _ _ (behind_then (behind_set _ _ _ _ (omega (arith, c.requires.point)) refl) c.loop-v.invariant.1) c.fill-2.ensures.filled;
    }
