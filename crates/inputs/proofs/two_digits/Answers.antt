-- `inputs::two_digits` meets its contract: the first digit is 1, or 2, or there is no number (`NumberLaws`).
-- Assumes nothing.
use mathlib.Core.Path.{sym, ◌∙◌, ap}
use mathlib.Core.List.{[], ◌∷◌}
use Rattle.std.proofs.Common.{rules}
use Rattle.inputs.specs.Inputs.{alphabet_of}
use Rattle.inputs.specs.Parsed.{told}
use Rattle.inputs.proofs.NumberLaws.{teens, twenties, two_other}
use Rattle.inputs.proofs.two_digits.Goals as goal

pub returns-then-a-eq49 : goal.returns-then-a-eq49
returns-then-a-eq49 c = record { number = c.digit_from.ensures.digit ∙ teens _ (search rules) ∙ ap (λ a. told (alphabet_of 26 (a ∷ c.args.b ∷ []))) (sym c.if-a-eq49.true) }

pub returns-then-a-eq50 : goal.returns-then-a-eq50
returns-then-a-eq50 c = record { number = c.digit_from-then-a-eq50.ensures.digit ∙ twenties _ (search rules) ∙ ap (λ a. told (alphabet_of 26 (a ∷ c.args.b ∷ []))) (sym c.if-a-eq50.true) }

pub returns : goal.returns
returns c = record { number = sym (ap told (two_other _ _ c.if-a-eq49.false c.if-a-eq50.false)) }
