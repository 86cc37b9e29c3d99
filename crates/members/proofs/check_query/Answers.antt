-- `members::check_query` meets its contract. The refusal of the query, or of its table (`AnswerLaws`).
-- Assumes nothing.
use Rattle.std.proofs.lemmas.Result.{err_from_is_err_and}
use Rattle.members.proofs.AnswerLaws.{query_text, query_table, query_alphabet}
use Rattle.members.proofs.check_query.Goals as goal

pub returns-in_err-scan-clause-tested : goal.returns-in_err-scan-clause-tested
returns-in_err-scan-clause-tested c =
    let p = err_from_is_err_and c.from_residual.result c.from_residual.ensures.1 in
    rw (p.1, p.2) (query_text _ _ _ _ _ c.in_err-scan.ensures.first)

pub check_table-requires : goal.check_table-requires
check_table-requires c = query_alphabet _ c.args.query.now c.in_ok-scan.ensures.first

pub returns-clause-tested : goal.returns-clause-tested
returns-clause-tested c = query_table _ _ _ _ _ c.in_ok-scan.ensures.first c.check_table.ensures.tested
