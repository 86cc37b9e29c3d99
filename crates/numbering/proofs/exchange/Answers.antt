use mathlib.Core.Path.{sym}
use Rattle.engine.proofs.ExchangeLaws.{exchanged_own}
use Rattle.engine.proofs.HoldLaws.{holds_first, holds_as}
use Rattle.numbering.proofs.TradeTurn.{head_first, head_asks, head_turn, head_done}
use Rattle.numbering.proofs.exchange.Goals as goal

pub returns-then-k-p : goal.returns-then-k-p
returns-then-k-p c = record { exchanged = holds_as (λ v y. sym (exchanged_own _ _ _ v y c.if-k-p.true)) (holds_first _ _ _) }

pub loop-y-init : goal.loop-y-init
loop-y-init c = head_first

pub trade-requires : goal.trade-requires
trade-requires c = head_asks c.requires.roomed c.requires.k_lt_room.0 c.requires.k_lt_room.1 c.if-k-p.false c.loop-y.invariant c.loop-y-test.true

pub loop-y-preserved : goal.loop-y-preserved
loop-y-preserved c = head_turn c.requires.roomed c.requires.k_lt_room.0 c.requires.k_lt_room.1 c.if-k-p.false c.loop-y.invariant c.trade.ensures.traded

pub returns : goal.returns
returns c = record {
  exchanged = head_done c.requires.roomed c.requires.k_lt_room.0 c.requires.k_lt_room.1 c.if-k-p.false c.loop-y.invariant c.loop-y-test.false;
}
