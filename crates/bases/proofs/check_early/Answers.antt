-- `bases::check_early` meets its contract. Refusals 1 and 6, 7, and 8, one after the other (`AnswerLaws`).
-- Assumes nothing.
use Rattle.std.proofs.lemmas.Result.{err_from_is_err_and}
use Rattle.bases.proofs.AnswerLaws.{early_lent, early_room, early_cells}
use Rattle.bases.proofs.check_early.Goals as goal

pub returns-in_err-lent-clause-tested : goal.returns-in_err-lent-clause-tested
returns-in_err-lent-clause-tested c =
    let p = err_from_is_err_and c.from_residual.result c.from_residual.ensures.1 in
    rw (p.1, p.2) (early_lent _ _ _ c.args.room c.in_err-lent.ensures.tested)

pub returns-in_err-check_room-clause-tested : goal.returns-in_err-check_room-clause-tested
returns-in_err-check_room-clause-tested c =
    let p = err_from_is_err_and c.from_residual-in_err-check_room.result c.from_residual-in_err-check_room.ensures.1 in
    let e = c.in_ok-lent.ensures.same in
    rw (p.1, p.2) (early_room _ _ _ c.args.room c.in_ok-lent.ensures.tested (rw (e.1) at c.in_err-check_room.ensures.checked))

pub returns-clause-tested : goal.returns-clause-tested
returns-clause-tested c =
    let e = c.in_ok-lent.ensures.same in
    early_cells _ _ _ c.args.room c.in_ok-lent.ensures.tested (rw (e.1) at c.in_ok-check_room.ensures.checked) (cc (e.0, e.1, e.2))
