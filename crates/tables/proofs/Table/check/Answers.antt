-- `tables::Table::check` meets its contract. What the tests of a lent table refuse, and then the walk (`CheckTurn`).
-- Assumes nothing.
use native.Mathlib.Omega.{arith}
use Rattle.std.proofs.lemmas.Result.{err_from_is_err_and}
use Rattle.tables.proofs.CheckTurn.{check_refused, check_faulty, check_sound, check_connected, check_few}
use Rattle.tables.proofs.Table.check.Goals as goal

pub returns-in_err-lend : goal.returns-in_err-lend
returns-in_err-lend c =
    let p = err_from_is_err_and c.from_residual.result c.from_residual.ensures.1 in
    record { outcome = rw (p.1, p.2) (check_refused _ _ _ c.in_err-lend.ensures.tested) }

pub returns-in_err-edges : goal.returns-in_err-edges
returns-in_err-edges c =
    let p = err_from_is_err_and c.from_residual-in_err-edges.result c.from_residual-in_err-edges.ensures.1 in
    let e = c.in_ok-lend.ensures.same in
    record { outcome = rw (p.1, p.2) (check_faulty _ _ _ c.in_ok-lend.ensures.tested (rw (e.0, e.1, e.2) at c.in_err-edges.ensures.walked)) }

pub overflow_add-result : goal.overflow_add-result
overflow_add-result c = omega (arith, check_few c.in_ok-lend.field-0.lent c.in_ok-edges.ensures.walked)

pub overflow_sub-result : goal.overflow_sub-result
overflow_sub-result c = omega (arith, check_connected c.in_ok-lend.field-0.lent c.in_ok-edges.ensures.walked, c.in_ok-lend.ensures.same.1)

pub returns : goal.returns
returns c =
    let e = c.in_ok-lend.ensures.same in
    record { outcome = check_sound _ _ _ c.in_ok-lend.ensures.tested (rw (e.0, e.1, e.2) at c.in_ok-edges.ensures.walked) c.index_of.ensures.index }
