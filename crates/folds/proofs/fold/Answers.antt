-- `folds::fold` meets its contract. A refusal at a stage is the answer, and behind all three stands the fold (`LentLaws`).
-- Assumes nothing.
use native.Mathlib.Omega.{arith}
use Rattle.std.proofs.lemmas.Result.{err_from_is_err_and}
use Rattle.folds.proofs.LentLaws.{list_refused, rows_asks, rows_refused, work_refused, as_much}
use Rattle.folds.proofs.fold.Goals as goal

pub returns-in_err-scan : goal.returns-in_err-scan
returns-in_err-scan c =
    let p = err_from_is_err_and c.from_residual.result c.from_residual.ensures.1 in
    record { outcome = rw (p.1, p.2) (list_refused _ _ _ _ c.in_err-scan.ensures.first) }

pub overflow_add-rows : goal.overflow_add-rows
overflow_add-rows c =
    record { fits = omega (arith, rows_asks _ _ c.args.table.now c.args.work.now c.in_ok-scan.ensures.first c.letters_in-rows.ensures.letters) }

pub check_rows-requires : goal.check_rows-requires
check_rows-requires c = rows_asks _ _ c.args.table.now c.args.work.now c.in_ok-scan.ensures.first c.letters_in-rows.ensures.letters

pub returns-in_err-check_rows : goal.returns-in_err-check_rows
returns-in_err-check_rows c =
    let p = err_from_is_err_and c.from_residual-in_err-check_rows.result c.from_residual-in_err-check_rows.ensures.1 in
    record { outcome = rw (p.1, p.2) (rows_refused _ _ _ _ c.in_ok-scan.ensures.first c.letters_in-rows.ensures.letters c.in_err-check_rows.ensures.checked) }

pub overflow_mul-rows : goal.overflow_mul-rows
overflow_mul-rows c =
    record { fits = omega (arith, rows_asks _ _ c.args.table.now c.args.work.now c.in_ok-scan.ensures.first c.letters_in-rows.ensures.letters) }

pub returns-in_err-check_room : goal.returns-in_err-check_room
returns-in_err-check_room c =
    let p = err_from_is_err_and c.from_residual-in_err-check_room.result c.from_residual-in_err-check_room.ensures.1 in
    record {
      outcome = rw (p.1, p.2) (work_refused _ _ _ _ c.in_ok-scan.ensures.first c.letters_in-rows.ensures.letters c.in_ok-check_rows.ensures.checked
          (as_much _ _ _ c.in_err-check_room.ensures.checked (omega arith)));
    }
