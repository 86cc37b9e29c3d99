-- A word that draws a refusal, one that is passed, and behind the last (SkipTurn).
-- Assumes nothing.
use native.Mathlib.Omega.{arith}
use Rattle.std.proofs.lemmas.Result.{err_from_is_err_and}
use Rattle.list_files.proofs.SkipTurn.{head_stop, head_low, head_turn, head_done}
use Rattle.list_files.proofs.skip_words.Goals as goal

pub returns-in_err-word : goal.returns-in_err-word
returns-in_err-word c =
    let p = err_from_is_err_and c.from_residual.result c.from_residual.ensures.1 in
    record { passed = rw (p.1, p.2) (head_stop c.loop.invariant c.loop-test.true c.in_err-word.ensures.passed) }

pub overflow_add-bytes : goal.overflow_add-bytes
overflow_add-bytes c = omega (arith, head_low c.loop.invariant c.in_ok-word.word c.in_ok-word.ensures.passed)

pub loop-preserved : goal.loop-preserved
loop-preserved c = head_turn c.loop.invariant c.in_ok-word.word c.in_ok-word.ensures.passed c.loop-test.true

pub returns : goal.returns
returns c = record { passed = head_done c.loop.invariant c.loop-test.false }
