-- `members::member` meets its contract. The first cause is the answer (`AnswerLaws`).
-- Assumes nothing.
use Rattle.std.proofs.lemmas.Result.{err_from_is_err_and}
use Rattle.members.proofs.AnswerLaws.{member_refused}
use Rattle.members.proofs.member.Goals as goal

pub returns-in_err-sound : goal.returns-in_err-sound
returns-in_err-sound c =
    let p = err_from_is_err_and c.from_residual.result c.from_residual.ensures.1 in
    record { outcome = rw (p.1, p.2) (member_refused _ _ _ _ _ c.in_err-sound.ensures.tested) }
