-- `is_needless` meets its contract, in its three cases (`ReadTurn`).
-- Assumes nothing.
use Rattle.numbers.proofs.ReadTurn.{needless_some, needless_alone, needless_behind}
use native.Mathlib.Omega.{arith}
use Rattle.numbers.proofs.is_needless.Goals as goal

pub returns-then-b-gt0 : goal.returns-then-b-gt0
returns-then-b-gt0 c = record { needless = needless_some _ _ (omega (arith, c.if-b-gt0.true)) }

pub returns-then-scale-lt2 : goal.returns-then-scale-lt2
returns-then-scale-lt2 c = record { needless = needless_alone _ _ (omega (arith, c.if-b-gt0.false)) (omega (arith, c.if-scale-lt2.true)) }

pub returns : goal.returns
returns c = record { needless = needless_behind _ _ (omega (arith, c.if-b-gt0.false)) (omega (arith, c.if-scale-lt2.false)) }
