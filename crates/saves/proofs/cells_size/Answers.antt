use native.Mathlib.Omega.{arith}
use Rattle.theory.specs.Files.{cell_number}
use Rattle.saves.proofs.CellLaws.{size_few}
use Rattle.saves.proofs.RunLaws.{mapped_next, mapped_end, sized_low, sized_turn, sized_done}
use Rattle.saves.proofs.cells_size.Goals as goal

pub overflow_add-size : goal.overflow_add-size
overflow_add-size c = record { fits = omega (arith, sized_low c.loop-x.invariant (mapped_next cell_number _ _ c.loop-x-test.true c.number_of.ensures.number.0) c.number_size-size.ensures.size, size_few c.args.cells.now, c.requires) }

pub loop-x-preserved : goal.loop-x-preserved
loop-x-preserved c = sized_turn c.loop-x.invariant (mapped_next cell_number _ _ c.loop-x-test.true c.number_of.ensures.number.0) c.number_size-size.ensures.size

pub returns : goal.returns
returns c = record { size = sized_done c.loop-x.invariant (mapped_end cell_number _ _ c.loop-x-test.false) }
