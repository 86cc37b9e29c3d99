-- `folds::fold_lent` meets its contract (`LentLaws`). The table that was built is not refused by the check.
-- Assumes nothing.
use native.Mathlib.Omega.{arith}
use Rattle.folds.proofs.LentLaws.{start_small, never_refused, merging_fits, points_fit, closing_fits, made_outcome}
use Rattle.folds.proofs.fold_lent.Goals as goal

pub returns-in_err-counts : goal.returns-in_err-counts
returns-in_err-counts c = absurd (never_refused c.requires c.build-points.ensures.built c.in_err-counts.ensures.outcome)

pub overflow_sub-result : goal.overflow_sub-result
overflow_sub-result c = merging_fits c.requires c.build-points.ensures.built c.in_ok-counts.ensures.outcome

pub overflow_add-result : goal.overflow_add-result
overflow_add-result c = record { fits = omega (arith, start_small c.requires c.build-points.ensures.built) }

pub overflow_sub-result-2 : goal.overflow_sub-result-2
overflow_sub-result-2 c = points_fit c.requires c.build-points.ensures.built c.in_ok-counts.ensures.outcome

pub overflow_sub-result-3 : goal.overflow_sub-result-3
overflow_sub-result-3 c = closing_fits c.requires c.build-points.ensures.built c.in_ok-counts.ensures.outcome

pub returns : goal.returns
returns c = record { outcome = made_outcome c.requires c.build-points.ensures.built c.in_ok-counts.ensures.outcome }
