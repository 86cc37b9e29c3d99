-- `members::check_table` meets its contract. The stages of `table_refusal`, one after the other (`AnswerLaws`).
-- That the work is enough where the cells are walked is searched for, not named: code that walks before it is known has no proof.
-- Assumes nothing.
use Rattle.std.proofs.lemmas.Result.{err_from_is_err_and}
use Rattle.std.proofs.Common.{rules}
use Rattle.members.proofs.AnswerLaws.{table_short, table_work, table_cells}
use Rattle.members.proofs.check_table.Goals as goal

pub returns-in_err-lent-clause-tested : goal.returns-in_err-lent-clause-tested
returns-in_err-lent-clause-tested c =
    let p = err_from_is_err_and c.from_residual.result c.from_residual.ensures.1 in
    rw (p.1, p.2) (table_short _ _ _ _ _ c.requires c.in_err-lent.ensures.tested)

pub returns-in_err-check_room-clause-tested : goal.returns-in_err-check_room-clause-tested
returns-in_err-check_room-clause-tested c =
    let p = err_from_is_err_and c.from_residual-in_err-check_room.result c.from_residual-in_err-check_room.ensures.1 in
    rw (p.1, p.2) (table_work _ _ _ _ _ c.requires c.in_ok-lent.ensures.tested c.in_err-check_room.ensures.checked)

pub returns : goal.returns
returns c =
    let e = c.in_ok-lent.ensures.same in
    record {
      tested = table_cells _ _ _ c.args.needed c.args.room c.requires c.in_ok-lent.ensures.tested (search rules) (rw (e.0, e.1, e.2) at c.checked.ensures.tested);
      same = rw (e.0, e.1, e.2) at c.checked.ensures.same;
    }
