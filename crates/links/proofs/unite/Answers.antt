-- `links::unite` meets its contract (rooms, `RoomLaws`).
-- Assumes nothing.
use Rattle.rooms.proofs.RoomLaws.{left_united}
use Rattle.links.proofs.unite.Goals as goal

pub returns-clause-united : goal.returns-clause-united
returns-clause-united c = left_united c.requires.usable _ _ c.requires.p_lt_made.0 c.requires.p_lt_made.1 c.unite-fold.ensures.united
