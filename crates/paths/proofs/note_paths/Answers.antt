-- `paths::note_paths` meets its contract. Each turn of the loops is one of `PathTurn`.
-- Assumes nothing.
use Rattle.tables.proofs.LentLaws.{sound}
use Rattle.paths.proofs.PathTurn.{kept_same, kept_first, kept_then, kept_turn, head_first, head_shallow, head_turn, head_row, head_done}
use Rattle.paths.proofs.note_paths.Goals as goal

pub loop-v-init : goal.loop-v-init
loop-v-init c = (head_first (sound c.args.t.now) _ c.requires.room c.note.ensures.noted, kept_same)

pub visit-met-requires-clause-shallow : goal.visit-met-requires-clause-shallow
visit-met-requires-clause-shallow c = head_shallow (sound c.args.t.now) c.loop-y.invariant.0 c.loop-v-test.true

pub loop-y-preserved : goal.loop-y-preserved
loop-y-preserved c =
    let s = sound c.args.t.now in
    let head = c.loop-y.invariant.0 in (
      head_turn s head c.loop-v-test.true c.loop-y-test.true c.visit-met.ensures.met c.visit-met.ensures.noted,
      kept_turn s head c.loop-y.invariant.1 c.visit-met.ensures.noted,
    )

pub loop-v-preserved : goal.loop-v-preserved
loop-v-preserved c = (head_row (sound c.args.t.now) c.loop-y.invariant.0 c.loop-v-test.true c.loop-y-test.false, kept_then c.loop-v.invariant.1 c.loop-y.invariant.1)

pub returns : goal.returns
returns c =
    let s = sound c.args.t.now in
    record { paths = head_done s (kept_then (kept_first s _ c.requires.room c.note.ensures.noted) c.loop-v.invariant.1) c.loop-v.invariant.0 c.loop-v-test.false }
