-- `tables::Lent::checked` meets its contract. What the walk says, but for its counts (`WalkLaws`).
-- Assumes nothing.
use Rattle.std.proofs.lemmas.Result.{err_from_is_err_and}
use Rattle.tables.proofs.WalkLaws.{walk_sound, walk_verdict}
use Rattle.tables.proofs.Lent.checked.Goals as goal

pub returns-in_err-walk-clause-tested : goal.returns-in_err-walk-clause-tested
returns-in_err-walk-clause-tested c =
    let p = err_from_is_err_and c.from_residual.result c.from_residual.ensures.1 in
    rw (p.1, p.2) (walk_verdict _ _ _ c.in_err-walk.ensures.walked)

pub invariant_of-result : goal.invariant_of-result
invariant_of-result c = record { lent = c.args.self.now.lent; sound = walk_sound _ _ _ c.in_ok-walk.ensures.walked }

pub returns-clause-tested : goal.returns-clause-tested
returns-clause-tested c = walk_verdict _ _ _ c.in_ok-walk.ensures.walked
