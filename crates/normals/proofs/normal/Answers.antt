-- `normals::normal` meets its contract. The first of 1, 6, 7 and 8, or what is judged (`AnswerLaws`).
-- Assumes nothing.
use native.Mathlib.Omega.{arith}
use Rattle.std.proofs.lemmas.Result.{err_from_is_err_and}
use Rattle.normals.proofs.AnswerLaws.{refused, room_there, judged}
use Rattle.normals.proofs.normal.Goals as goal

pub returns-in_err-sound : goal.returns-in_err-sound
returns-in_err-sound c =
    let p = err_from_is_err_and c.from_residual.result c.from_residual.ensures.1 in
    record { outcome = rw (p.1, p.2) (refused _ _ _ c.args.work.now c.in_err-sound.ensures.tested) }

pub is_normal-requires : goal.is_normal-requires
is_normal-requires c = record { room = omega (arith, room_there _ _ _ c.args.work.now c.in_ok-sound.ensures.tested, c.in_ok-sound.ensures.same.1) }

pub returns : goal.returns
returns c =
    let e = c.in_ok-sound.ensures.same in
    record { outcome = judged _ _ _ c.args.work.now c.in_ok-sound.ensures.tested (rw (e.0, e.1, e.2) at c.is_normal.ensures.normal) (rw (e.1) at c.is_normal.ensures.cleared) }
