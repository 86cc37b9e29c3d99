-- `head_size` meets its contract: a number below 128 takes one byte.
-- Assumes nothing.
use Rattle.saves.proofs.CellLaws.{head_sized}
use Rattle.saves.proofs.HeadLaws.{small_kind}
use Rattle.numbers.proofs.NumberLaws.{number_fits}
use native.Mathlib.Omega.{arith}
use Rattle.saves.proofs.head_size.Goals as goal

pub overflow_add-result : goal.overflow_add-result
overflow_add-result c = record { fits = omega (arith, c.number_size.ensures.size, number_fits c.args.count) }

pub returns : goal.returns
returns c = record { size = head_sized _ _ _ _ (small_kind c.args.kind) c.requires.0 c.number_size.ensures.size }
