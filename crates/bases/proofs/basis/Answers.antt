-- `bases::basis` meets its contract. The first of 1, 6, 7 and 8, or what comes behind them (`AnswerLaws`).
-- Assumes nothing.
use native.Mathlib.Omega.{arith}
use Rattle.std.proofs.lemmas.Result.{err_from_is_err_and}
use Rattle.bases.proofs.AnswerLaws.{early_none, early_fine, early_refused}
use Rattle.bases.proofs.basis.Goals as goal

pub returns-in_err-sound : goal.returns-in_err-sound
returns-in_err-sound c =
    let p = err_from_is_err_and c.from_residual.result c.from_residual.ensures.1 in
    record { outcome = rw (p.1, p.2) (early_refused _ _ _ c.args.work.now c.args.out.now c.in_err-sound.ensures.tested) }

pub write_basis-requires : goal.write_basis-requires
write_basis-requires c =
    let room = (early_fine _ _ _ _ (early_none _ _ _ _ c.in_ok-sound.ensures.tested)).1 in
    record { room = omega (arith, c.in_ok-sound.ensures.same.1) }
