-- `save_list` meets its contract: what `scan` refuses, or a list saved (`SaveLaws`).
-- Assumes nothing.
use Rattle.std.proofs.lemmas.Result.{err_from_is_err_and}
use Rattle.saves.proofs.SaveLaws.{scan_refused, scan_fine}
use Rattle.saves.proofs.save_list.Goals as goal

pub save_fine-requires : goal.save_fine-requires
save_fine-requires c = scan_fine _ _ c.in_ok-scan.ensures.first

pub returns-in_err-scan : goal.returns-in_err-scan
returns-in_err-scan c =
    let p = err_from_is_err_and c.from_residual.result c.from_residual.ensures.1 in
    record { outcome = rw (p.1, p.2) (scan_refused _ _ _ c.in_err-scan.ensures.first) }
