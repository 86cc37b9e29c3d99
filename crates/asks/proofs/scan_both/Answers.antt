-- `asks::scan_both` meets its contract: the first refusal of both texts from those of each (`ScanLaws`).
-- Assumes nothing.
use native.Mathlib.Omega.{arith}
use Rattle.asks.proofs.ScanLaws.{list_fine, query_fine, query_before, list_before}
use Rattle.asks.proofs.scan_both.Goals as goal

pub returns-in_default : goal.returns-in_default
returns-in_default c = record { first = list_fine _ _ _ c.in_default.ensures.first c.scan-second.ensures.first }

pub returns-in-Err-second : goal.returns-in-Err-second
returns-in-Err-second c = record { first = query_before _ _ _ c.in-Err.ensures.first c.in-Err-second.ensures.first (omega arith) }

pub returns-in_default-second : goal.returns-in_default-second
returns-in_default-second c = record { first = list_before _ _ _ c.in-Err.ensures.first c.in-Err-second.ensures.first (omega arith) }

pub returns-in_default-second-2 : goal.returns-in_default-second-2
returns-in_default-second-2 c = record { first = query_fine _ _ _ c.in-Err.ensures.first c.in_default-second.ensures.first }
