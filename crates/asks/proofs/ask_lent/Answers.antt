-- `asks::ask_lent` meets its contract (`AskLaws`). The table that was built is not refused.
-- Assumes nothing.
use Rattle.asks.proofs.AskLaws.{build_asks, answered}
use Rattle.asks.proofs.ask_lent.Goals as goal

pub build-points-requires : goal.build-points-requires
build-points-requires c = build_asks c.requires

pub returns : goal.returns
returns c = record { outcome = answered c.requires c.build-points.ensures.built c.member.ensures.outcome }
