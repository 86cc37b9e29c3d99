-- `lists::scan` meets its contract. The stages of `text_refusal`, one after the other (`ScanTurn`).
-- Assumes nothing.
use mathlib.Core.Path.{◌∙◌, ap}
use native.Mathlib.Omega.{arith}
use Rattle.std.proofs.lemmas.Result.{err_from_is_err_and}
use Rattle.std.specs.declared.result.Result.TheVariants.{Err}
use Rattle.lists.proofs.ScanTurn.{of_own, scan_alphabet, scan_long, scan_byte, scan_last}
use Rattle.lists.proofs.scan.Goals as goal

-- what is tested is the list's own n: as the number that it is, not as the text of the call
pub returns-in_err-check_alphabet : goal.returns-in_err-check_alphabet
returns-in_err-check_alphabet c =
    let p = err_from_is_err_and c.from_residual.result c.from_residual.ensures.1 in
    record { first = rw (p.1, p.2) (scan_alphabet _ _ _ (of_own _ c.args.n c.in_err-check_alphabet.ensures.checked (omega arith))) }

pub returns-then-text-gt1048576 : goal.returns-then-text-gt1048576
returns-then-text-gt1048576 c =
    let a = of_own _ c.args.n c.in_ok-check_alphabet.ensures.checked (omega arith) in
    record { first = ap Err c.refuse.ensures.made ∙ scan_long _ _ _ a c.if-text-gt1048576.true }

pub returns-in_err-scan_bytes : goal.returns-in_err-scan_bytes
returns-in_err-scan_bytes c =
    let p = err_from_is_err_and c.from_residual-in_err-scan_bytes.result c.from_residual-in_err-scan_bytes.ensures.1 in
    let a = of_own _ c.args.n c.in_ok-check_alphabet.ensures.checked (omega arith) in
    record { first = rw (p.1, p.2) (scan_byte _ _ _ a c.if-text-gt1048576.false c.in_err-scan_bytes.ensures.first) }

pub returns : goal.returns
returns c =
    let a = of_own _ c.args.n c.in_ok-check_alphabet.ensures.checked (omega arith) in
    record { first = c.scan_end.ensures.last ∙ scan_last _ _ _ a c.if-text-gt1048576.false c.in_ok-scan_bytes.ensures.first }
