-- `words::word_length` meets its contract: the place of the first line end (`LengthTurn`).
-- Assumes nothing.
use mathlib.Core.Path.{◌≡◌, ◌∙◌, ap}
use lib.Dec.{eqb}
use lib.ListN.{length}
use Rattle.std.proofs.Common.{rules, tests}
use Rattle.std.proofs.lemmas.Iterator.{YieldsList-from_slice}
use Rattle.std.proofs.lemmas.Iterator.Search.{position_from_yields_List}
use Rattle.std.specs.List.{position}
use Rattle.std.specs.Option.{unwrap_or}
use Rattle.theory.specs.Letters.{line_end}
use Rattle.words.proofs.LengthTurn.{word_found}
use Rattle.words.proofs.word_length.Goals as goal

pub returns : goal.returns
returns c =
    let found : c.position.result ≡ position (λ b. eqb b line_end) c.args.part.now =
    position_from_yields_List (λ b. eqb b line_end) _ _ c.position.result c.position.ensures.ran (YieldsList-from_slice c.args.part.now (cc)) (λ x b q k. search (rules, tests)) in
    record { length = c.unwrap_or.ensures ∙ ap (λ o. unwrap_or o (length c.args.part.now)) found ∙ word_found c.args.part.now }
