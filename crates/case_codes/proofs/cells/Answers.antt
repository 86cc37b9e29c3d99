use Rattle.std.proofs.lemmas.List.{take_all}
use Rattle.std.proofs.Common.{arith}
use Rattle.case_codes.specs.Codes.{cell_of, cells_of}
use Rattle.case_codes.proofs.CellsTurn.{cells_more}
use Rattle.case_codes.proofs.cells.Goals as goal

pub loop-i-preserved : goal.loop-i-preserved
loop-i-preserved c = cells_more cell_of _ _ _ _ _ c.loop-i-test.true c.requires c.loop-i.invariant c.cell.ensures.cell

pub returns : goal.returns
unfolding cells_of
returns c = grind (arith, take_all)
