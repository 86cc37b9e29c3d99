use native.Mathlib.Omega.{arith}
use Rattle.numbering.proofs.NumberTurn.{row_first, row_scanned, row_low, row_turn, row_done}
use Rattle.numbering.proofs.number_row.Goals as goal

pub loop-i-init : goal.loop-i-init
loop-i-init c = row_first

pub number_cell-found-requires-clause-scanned : goal.number_cell-found-requires-clause-scanned
number_cell-found-requires-clause-scanned c = row_scanned c.requires.scanned c.loop-i.invariant

pub number_cell-found-requires-clause-v_lt_met : goal.number_cell-found-requires-clause-v_lt_met
number_cell-found-requires-clause-v_lt_met c = (omega (arith, row_low c.requires.scanned c.loop-i.invariant), c.letter_at.ensures.letter.1)

pub loop-i-preserved : goal.loop-i-preserved
loop-i-preserved c = row_turn c.requires.scanned c.loop-i.invariant c.letter_at.ensures.letter.0 c.number_cell-found.ensures.named

pub returns : goal.returns
returns c = record { named = row_done c.requires.scanned c.loop-i.invariant (omega (arith, c.loop-i-test.false)) }
