-- `write_decimal` meets `Decimal`: the size is counted, 20 cells hold it, and the digits are written. Assumes nothing.
use native.Mathlib.Omega.{arith}
use Rattle.decimals.proofs.DecimalLaws.{decimal_fits}
use Rattle.decimals.proofs.write_decimal.Goals as goal

pub write_digits-requires : goal.write_digits-requires
write_digits-requires c = (c.count_digits-size.ensures.count, omega (arith, decimal_fits c.args.x (omega arith), c.count_digits-size.ensures.count))
