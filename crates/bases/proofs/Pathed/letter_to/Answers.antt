-- `bases::Pathed::letter_to` meets its contract. Of each point a letter is noted (`PathedLaws`).
-- Assumes nothing.
use Rattle.bases.proofs.PathedLaws.{pathed, letter_small}
use Rattle.bases.proofs.Pathed.letter_to.Goals as goal

pub returns-clause-small : goal.returns-clause-small
returns-clause-small c = letter_small (pathed c.args.self.now) _ c.requires.point
