-- Where no number stands, where one is too big, where one does, and behind the last (SkipTurn).
-- Assumes nothing.
use mathlib.Core.Path.{◌∙◌, ap}
use Rattle.std.proofs.lemmas.Result.{err_from_is_err_and}
use Rattle.std.specs.declared.result.Result.TheVariants.{Err}
use Rattle.runs.proofs.SkipTurn.{head_none, head_beyond, head_turn, head_done}
use Rattle.runs.proofs.skip.Goals as goal

pub returns-in_err-number : goal.returns-in_err-number
returns-in_err-number c =
    let p = err_from_is_err_and c.from_residual.result c.from_residual.ensures.1 in
    record { skipped = rw (p.1, p.2) (head_none c.loop.invariant c.loop-test.true _ c.in_err-number.ensures.number) }

pub returns-then-limit-number : goal.returns-then-limit-number
returns-then-limit-number c =
    record {
      skipped =
          ap Err c.refuse.ensures.made
          ∙ head_beyond c.loop.invariant c.loop-test.true c.in_ok-number.number c.in_ok-number.ensures.number c.if-limit-number.true;
    }

pub loop-preserved : goal.loop-preserved
loop-preserved c =
    head_turn c.loop.invariant c.loop-test.true c.in_ok-number.number c.in_ok-number.ensures.number c.if-limit-number.false

pub returns : goal.returns
returns c = record { skipped = head_done c.loop.invariant c.loop-test.false }
