-- `numbering::number_cell` meets its contract. The outcomes are those of `NumberTurn`.
-- Assumes nothing.
use native.Mathlib.Omega.{arith}
use Rattle.numbering.proofs.NumberTurn.{cell_none, cell_met, cell_asks, cell_new}
use Rattle.numbering.proofs.number_cell.Goals as goal

pub returns-then-u : goal.returns-then-u
returns-then-u c = record { named = cell_none c.requires.scanned _ _ c.cell_at-u.ensures.leads c.if-u.true }

pub returns-then-u-met : goal.returns-then-u-met
returns-then-u-met c = record { named = cell_met c.requires.scanned _ _ c.cell_at-u.ensures.leads c.if-u.false (omega arith) }

pub returns : goal.returns
returns c = record {
  named = cell_new c.requires.scanned _ _ c.cell_at-u.ensures.leads c.if-u.false (omega (arith, c.if-u-met.false))
      c.exchange.ensures.exchanged;
}

pub exchange-requires-clause-k_lt_room : goal.exchange-requires-clause-k_lt_room
exchange-requires-clause-k_lt_room c = cell_asks c.requires.scanned _ _ c.cell_at-u.ensures.leads c.if-u.false (omega arith)
