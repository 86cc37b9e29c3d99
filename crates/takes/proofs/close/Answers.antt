use Rattle.takes.proofs.ChainTurn.{close_usable, close_none, close_ends, close_letter}
use Rattle.takes.proofs.close.Goals as goal

pub unite-requires-clause-usable : goal.unite-requires-clause-usable
unite-requires-clause-usable c = close_usable c.requires.fits

pub returns-then-i-end-clause-closed : goal.returns-then-i-end-clause-closed
returns-then-i-end-clause-closed c = close_none c.requires.fits c.if-i-end.true c.unite.ensures.united

pub link-requires : goal.link-requires
link-requires c = record { usable = close_usable c.requires.fits; ends = close_ends c.requires.fits c.if-i-end.false c.requires.end_bound }

pub returns-clause-closed : goal.returns-clause-closed
returns-clause-closed c = close_letter c.requires.fits c.if-i-end.false c.requires.end_bound c.link.ensures.joined
