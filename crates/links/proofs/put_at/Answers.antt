-- `links::put_at` meets its contract. A store into the row that is lent is one into the cells.
-- Assumes nothing.
use Rattle.links.proofs.LinkLaws.{put_here}
use Rattle.links.proofs.put_at.Goals as goal

pub returns : goal.returns
returns c = record { put = put_here c.requires _ c.put.ensures.put }
