use Rattle.takes.proofs.ChainTurn.{grow_usable, grow_left}
use Rattle.takes.proofs.grow.Goals as goal

pub link-requires-clause-usable : goal.link-requires-clause-usable
link-requires-clause-usable c = grow_usable c.requires

pub returns-clause-grown : goal.returns-clause-grown
returns-clause-grown c = grow_left c.requires c.link.ensures.joined
