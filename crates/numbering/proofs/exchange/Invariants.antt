-- `numbering::exchange` meets its contract. The loop: the turns of the letters below y are done (`TradeTurn`).
-- Assumes nothing.
use Rattle.numbering.proofs.TradeTurn.{Head}
use Rattle.numbering.proofs.exchange.Given as goal

abbrev pub invariant-loop-y : goal.invariant-loop-y
invariant-loop-y l = Head l.room.n l.room.rows l.initial.table l.k l.p l.y l.table
