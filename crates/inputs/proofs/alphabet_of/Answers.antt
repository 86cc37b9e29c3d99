-- `inputs::alphabet_of` meets its contract, by the length of the line (`NumberLaws`).
-- Assumes nothing.
use mathlib.Core.Path.{sym, ◌∙◌, ap}
use native.Mathlib.Omega.{arith}
use Rattle.inputs.specs.Parsed.{told}
use Rattle.inputs.proofs.NumberLaws.{one_byte, other_bytes}
use Rattle.inputs.proofs.alphabet_of.Goals as goal

pub returns-in-len1 : goal.returns-in-len1
returns-in-len1 c = record { alphabet = c.digit_from.ensures.digit ∙ one_byte c.args.line.now (omega arith) (omega (arith, c.type_inv.line 0)) }

pub returns-in_default : goal.returns-in_default
returns-in_default c = record { alphabet = sym (ap told (other_bytes c.args.line.now (λ e. omega arith) (λ e. omega arith))) }

pub returns-in_default-2 : goal.returns-in_default-2
returns-in_default-2 c = record { alphabet = sym (ap told (other_bytes c.args.line.now (λ e. omega arith) (λ e. omega arith))) }
