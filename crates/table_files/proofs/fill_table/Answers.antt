-- The walk says of the written table what `by_fault` does (ReadLaws); there are as many cells as were read.
-- Assumes nothing.
use Rattle.table_files.proofs.ReadLaws.{put_sound, put_faulty}
use Rattle.table_files.proofs.fill_table.Goals as goal

pub returns-in-Err : goal.returns-in-Err
returns-in-Err c =
    let all =
    put_faulty _ _ _ _ _ c.requires.whole c.cell_count-count.ensures.count c.put_cells.ensures.cells
    c.in-Err.ensures.walked c.fill.ensures.filled in
    record { answer = all.0; cells = all.1 }

pub returns : goal.returns
returns c =
    let all =
    put_sound _ _ _ _ _ c.requires.whole c.cell_count-count.ensures.count c.put_cells.ensures.cells c.in_default.ensures.walked in
    record { answer = all.0; cells = all.1 }
