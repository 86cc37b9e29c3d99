-- `links::unlink` meets its contract. Two stores, one after the other.
-- Assumes nothing.
use mathlib.Core.Path.{refl}
use native.Mathlib.Omega.{arith}
use Rattle.links.proofs.LinkLaws.{back_in, edge_gone}
use Rattle.links.proofs.unlink.Goals as goal

pub put_at-requires : goal.put_at-requires
put_at-requires c = back_in c.requires.at refl (omega (arith, c.requires.far, c.cell_at-q.ensures.leads)) c.inverse.ensures.inverse

pub returns : goal.returns
returns c = record { unlinked = edge_gone _ _ c.cell_at-q.ensures.leads c.inverse.ensures.inverse c.put_at.ensures.put c.put_at-2.ensures.put }
