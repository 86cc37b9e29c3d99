-- `links::link` meets its contract. Its three outcomes are those of `LinkLaws`.
-- Assumes nothing.
use Rattle.links.proofs.LinkLaws.{back_in, made_in, link_free, link_taken, link_back}
use native.Mathlib.Omega.{arith}
use mathlib.Core.Path.{refl}
use Rattle.links.proofs.link.Goals as goal

pub returns-then-ahead-clause-joined : goal.returns-then-ahead-clause-joined
returns-then-ahead-clause-joined c = link_taken c.requires.usable c.requires.ends c.edge_at-ahead.ensures.leads c.if-ahead.true c.unite.ensures.united

pub edge_at-back-requires : goal.edge_at-back-requires
edge_at-back-requires c =
    let ends = c.requires.ends in
    back_in (made_in c.requires.usable _ _ ends.from ends.letter) refl (omega arith) c.inverse.ensures.inverse

pub returns-then-back-clause-joined : goal.returns-then-back-clause-joined
returns-then-back-clause-joined c = link_back c.requires.usable c.requires.ends c.edge_at-ahead.ensures.leads c.if-ahead.false c.inverse.ensures.inverse c.edge_at-back.ensures.leads c.if-back.true c.unite-then-back.ensures.united

pub returns-clause-joined : goal.returns-clause-joined
returns-clause-joined c = link_free c.requires.usable c.requires.ends c.edge_at-ahead.ensures.leads c.if-ahead.false c.inverse.ensures.inverse c.edge_at-back.ensures.leads c.if-back.false c.put_edge.ensures.linked
