-- `fold_cases::four` meets its contract: the least byte first.
-- Assumes nothing.
use Rattle.std.proofs.Common.{arith}
use Rattle.fold_cases.specs.Cases.{four_of}
use Rattle.fold_cases.proofs.four.Goals as goal

pub returns : goal.returns
unfolding four_of
returns c = record { number = (omega (arith, c.from_le_bytes.ensures), omega (arith, c.from_le_bytes.type_inv)) }
