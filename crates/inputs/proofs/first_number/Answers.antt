-- `inputs::first_number` meets its contract: the first line without its end is the word at the start (`LineLaws`).
-- Assumes nothing.
use mathlib.Core.Path.{sym, ◌∙◌, ap}
use native.Mathlib.Omega.{arith}
use lib.ListN.{length-take}
use Rattle.theory.proofs.TextLaws.{word_length_le}
use Rattle.inputs.specs.Inputs.{alphabet_of}
use Rattle.inputs.specs.Parsed.{number_or_refusal, first_number_of}
use Rattle.inputs.proofs.LineLaws.{first_word}
use Rattle.inputs.proofs.NumberLaws.{number_answer}
use Rattle.inputs.proofs.first_number.Goals as goal

pub slice_bounds-alphabet_of-end : goal.slice_bounds-alphabet_of-end
slice_bounds-alphabet_of-end c = simp length-take (omega (arith, c.word_length-size.ensures.length, word_length_le c.args.input.now))

pub returns : goal.returns
unfolding first_number_of
returns c =
    record {
      number =
          (rw (c.ok_or.ensures.value, c.alphabet_of.ensures.alphabet, c.refuse.ensures.made, c.word_length-size.ensures.length) (number_answer _))
          ∙ sym (ap (λ l. number_or_refusal (alphabet_of 26 l)) (first_word c.args.input.now));
    }
