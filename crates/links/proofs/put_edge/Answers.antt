-- `links::put_edge` meets its contract. Two stores, one after the other.
-- Assumes nothing.
use Rattle.links.proofs.LinkLaws.{back_in, edge_put}
use Rattle.links.proofs.put_edge.Goals as goal

pub put_at-requires-2 : goal.put_at-requires-2
put_at-requires-2 c = back_in c.requires.from c.put_at.ensures.put.same c.requires.b_lt_rows c.inverse.ensures.inverse

pub returns : goal.returns
returns c = record { linked = edge_put _ _ _ c.inverse.ensures.inverse c.put_at.ensures.put c.put_at-2.ensures.put }
