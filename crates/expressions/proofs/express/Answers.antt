-- `expressions::express` meets its contract. The first of 1 to 8, or what is said where none applies (`AnswerLaws`).
-- Assumes nothing.
use Rattle.std.proofs.lemmas.Result.{err_from_is_err_and}
use Rattle.expressions.proofs.AnswerLaws.{query_refused}
use Rattle.expressions.proofs.express.Goals as goal

pub returns-in_err-sound : goal.returns-in_err-sound
returns-in_err-sound c =
    let p = err_from_is_err_and c.from_residual.result c.from_residual.ensures.1 in
    record { outcome = rw (p.1, p.2) (query_refused _ _ _ _ _ _ c.in_err-sound.ensures.tested) }
