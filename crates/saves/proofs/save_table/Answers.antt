-- `save_table` meets its contract: what the tests of a lent table refuse, or the walk, or a canonical table saved (`SaveLaws`).
-- Assumes nothing.
use Rattle.std.proofs.lemmas.Result.{err_from_is_err_and}
use Rattle.tables.proofs.WalkLaws.{walk_ok}
use Rattle.tables.proofs.CheckTurn.{check_refused, check_faulty}
use Rattle.saves.proofs.SaveLaws.{table_refused}
use Rattle.saves.proofs.save_table.Goals as goal

pub returns-in_err-lent : goal.returns-in_err-lent
returns-in_err-lent c =
    let p = err_from_is_err_and c.from_residual.result c.from_residual.ensures.1 in
    record { outcome = rw (p.1, p.2) (table_refused _ _ _ _ (check_refused _ _ _ c.in_err-lent.ensures.tested)) }

pub returns-in_err-walk : goal.returns-in_err-walk
returns-in_err-walk c =
    let p = err_from_is_err_and c.from_residual-in_err-walk.result c.from_residual-in_err-walk.ensures.1 in
    let e = c.in_ok-lent.ensures.same in
    record { outcome = rw (p.1, p.2) (table_refused _ _ _ _ (check_faulty _ _ _ c.in_ok-lent.ensures.tested (rw (e.0, e.1, e.2) at c.in_err-walk.ensures.walked))) }

pub save_checked-requires : goal.save_checked-requires
save_checked-requires c = record { sound = (walk_ok _ _ _ c.in_ok-walk.ensures.walked).0 }
