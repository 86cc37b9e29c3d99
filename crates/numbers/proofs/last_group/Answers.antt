-- `last_group` meets its contract: the group is needless, or the number too big, or neither (`ReadTurn`).
-- Assumes nothing.
use Rattle.numbers.proofs.ReadTurn.{last_needless, last_big, last_number}
use native.Mathlib.Omega.{arith}
use Rattle.numbers.proofs.last_group.Goals as goal

pub returns-then-is_needless : goal.returns-then-is_needless
returns-then-is_needless c = record { number = last_needless _ _ _ _ c.is_needless.ensures.needless c.if-is_needless.true }

pub returns-then-x-gt4294967295 : goal.returns-then-x-gt4294967295
returns-then-x-gt4294967295 c = record { number = last_big _ _ _ _ c.is_needless.ensures.needless c.if-is_needless.false (omega (arith, c.if-x-gt4294967295.true)) }

pub returns : goal.returns
returns c = record { number = last_number _ _ _ _ c.is_needless.ensures.needless c.if-is_needless.false (omega (arith, c.if-x-gt4294967295.false)) }
