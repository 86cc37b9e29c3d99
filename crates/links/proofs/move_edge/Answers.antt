-- `links::move_edge` meets its contract. There is no edge, or it is unlinked and joined to u.
-- Assumes nothing.
use Rattle.links.proofs.LinkLaws.{move_usable, move_ends, move_left, move_none}
use Rattle.links.proofs.move_edge.Goals as goal

pub returns-then-q-clause-moved : goal.returns-then-q-clause-moved
returns-then-q-clause-moved c = move_none c.requires.usable c.requires.ends c.edge_at-q.ensures.leads c.if-q.true

pub link-requires-clause-usable : goal.link-requires-clause-usable
link-requires-clause-usable c = move_usable c.requires.usable c.requires.ends c.edge_at-q.ensures.leads c.if-q.false c.unlink.ensures.unlinked

pub link-requires-clause-ends : goal.link-requires-clause-ends
link-requires-clause-ends c = move_ends c.requires.usable c.requires.ends c.edge_at-q.ensures.leads c.if-q.false c.unlink.ensures.unlinked c.far_end.ensures.far

pub returns-clause-moved : goal.returns-clause-moved
returns-clause-moved c = move_left c.requires.usable c.requires.ends c.edge_at-q.ensures.leads c.if-q.false c.unlink.ensures.unlinked c.far_end.ensures.far c.link.ensures.joined
