-- `letters::letter_of` meets its contract. Each arm is what the class says of the letter.
-- Assumes nothing.
use mathlib.Core.Path.{sym}
use mathlib.Core.Bool.{true}
use native.Mathlib.Omega.{arith}
use Rattle.letters.proofs.ClassLaws.{told}
use Rattle.letters.proofs.letter_of.Goals as goal

pub overflow_sub-result : goal.overflow_sub-result
overflow_sub-result c = omega (arith, (told 1 true _ c.ranges.b.fits c.class_of.ensures.class c.in-Lower.is).counted)

pub overflow_sub-result-in-Upper : goal.overflow_sub-result-in-Upper
overflow_sub-result-in-Upper c = omega (arith, (told 1 true _ c.ranges.b.fits c.class_of.ensures.class c.in-Upper.is).counted)

pub returns-in-Lower : goal.returns-in-Lower
returns-in-Lower c = record { letter = sym (told 1 true _ c.ranges.b.fits c.class_of.ensures.class c.in-Lower.is).letter }

pub returns-in-Upper : goal.returns-in-Upper
returns-in-Upper c = record { letter = sym (told 1 true _ c.ranges.b.fits c.class_of.ensures.class c.in-Upper.is).letter }

pub returns-in-LineEnd : goal.returns-in-LineEnd
returns-in-LineEnd c = record { letter = sym (told 1 true _ c.ranges.b.fits c.class_of.ensures.class c.in-LineEnd.is).letter }

pub returns-in-Other : goal.returns-in-Other
returns-in-Other c = record { letter = sym (told 1 true _ c.ranges.b.fits c.class_of.ensures.class c.in-Other.is).letter }
