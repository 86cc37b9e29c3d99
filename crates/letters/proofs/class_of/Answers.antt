-- `letters::class_of` meets its contract. Each arm is a law of `ClassLaws`, by the range that led to it.
-- Assumes nothing.
use mathlib.Core.Path.{sym}
use mathlib.Core.Logic.{inl, inr}
use native.Mathlib.Omega.{arith}
use Rattle.letters.proofs.ClassLaws.{class_lower, class_upper, class_end, class_other}
use Rattle.letters.proofs.class_of.Goals as goal

pub returns-in-10 : goal.returns-in-10
returns-in-10 c = record { class = sym (class_end _ c.in-10.is) }

pub returns-in-65-to-90 : goal.returns-in-65-to-90
returns-in-65-to-90 c = record { class = sym (class_upper c.args.b (omega arith) (omega arith)) }

pub returns-in-97-to-122 : goal.returns-in-97-to-122
returns-in-97-to-122 c = record { class = sym (class_lower c.args.b (omega arith) (omega arith)) }

pub returns-in_default : goal.returns-in_default
returns-in_default c = record { class = sym (class_other c.args.b c.in_default.in_default-own.rest.1 (inl (omega arith))) }

pub returns-in_default-2 : goal.returns-in_default-2
returns-in_default-2 c = record { class = sym (class_other c.args.b c.in_default.in_default-own.rest.1 (inr (inl (omega arith, omega arith)))) }

pub returns-in_default-3 : goal.returns-in_default-3
returns-in_default-3 c = record { class = sym (class_other c.args.b c.in_default.in_default-own.rest.1 (inr (inr (omega arith)))) }
