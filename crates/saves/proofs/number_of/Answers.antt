-- `number_of` meets its contract, in its two cases (`CellLaws`).
-- Assumes nothing.
use Rattle.saves.proofs.CellLaws.{number_absent, number_point}
use native.Mathlib.Omega.{arith}
use Rattle.saves.proofs.number_of.Goals as goal

pub returns-then-x-eq-ABSENT : goal.returns-then-x-eq-ABSENT
returns-then-x-eq-ABSENT c = record { number = number_absent _ c.if-x-eq-ABSENT.true }

pub returns : goal.returns
returns c = record { number = rw c.from.ensures (number_point _ c.if-x-eq-ABSENT.false (omega arith)) }
