use Rattle.theory.specs.Files.{cell_number}
use Rattle.saves.proofs.RunLaws.{mapped_next, mapped_end, run_room, run_turn, run_done}
use Rattle.saves.proofs.write_cells.Goals as goal

pub write_number-p-requires : goal.write_number-p-requires
write_number-p-requires c = (c.number_of.ensures.number.1, run_room c.loop-x.invariant (mapped_next cell_number _ _ c.loop-x-test.true c.number_of.ensures.number.0))

pub loop-x-preserved : goal.loop-x-preserved
loop-x-preserved c = run_turn c.loop-x.invariant (mapped_next cell_number _ _ c.loop-x-test.true c.number_of.ensures.number.0) c.write_number-p.ensures.written

pub returns : goal.returns
returns c = record { written = run_done c.loop-x.invariant (mapped_end cell_number _ _ c.loop-x-test.false) }
