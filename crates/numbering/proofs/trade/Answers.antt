-- `numbering::trade` meets its contract. The ends are traded, and the far ends mended (`TradeTurn`).
-- Assumes nothing.
use native.Mathlib.Omega.{arith}
use Rattle.numbering.proofs.TradeTurn.{traded}
use Rattle.numbering.proofs.trade.Goals as goal

pub returns : goal.returns
returns c = record {
  traded = traded _ _ _ _ _ c.cell_at-a.ensures.leads c.cell_at-b.ensures.leads c.trade_ends.ensures.traded
      c.mend.ensures.mended c.mend-2.ensures.mended (omega arith) (omega arith);
}
