-- `fold_cases::case_of` meets its contract: n has eight bytes, the number of the first four and that of the others.
-- Assumes nothing.
use Rattle.std.proofs.Common.{◌≡◌, ◌+◌, ◌*◌, arith}
use Rattle.fold_cases.specs.Cases.{four_of, case_of}
use Rattle.fold_cases.proofs.case_of.Goals as goal

pub returns : goal.returns
unfolding four_of case_of
returns c =
    let n : c.from_le_bytes.result ≡ four_of c.args.head.now 0 + 4294967296 * four_of c.args.head.now 4 = omega (arith, c.from_le_bytes.ensures) in
    record { numbers = cc }
