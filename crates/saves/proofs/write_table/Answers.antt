-- `write_table` meets its contract: the head, then the cells (`CellLaws`).
-- Assumes nothing.
use mathlib.Core.Path.{refl}
use native.Mathlib.Omega.{arith}
use Rattle.saves.proofs.CellLaws.{head_room, cells_room, table_made}
use Rattle.saves.proofs.write_table.Goals as goal

pub write_head-at-requires : goal.write_head-at-requires
write_head-at-requires c =
    let l = c.args.t.now.lent in
    (omega (arith, l.letters), omega (arith, l.points), head_room _ _ _ c.args.t.now.cells.now c.args.out.now refl c.requires.room)

pub write_cells-requires : goal.write_cells-requires
write_cells-requires c = cells_room _ _ _ _ _ c.cell_count.ensures.count c.requires.room c.write_head-at.ensures.written

pub returns : goal.returns
returns c = record { written = table_made _ _ _ _ _ c.cell_count.ensures.count c.requires.room c.write_head-at.ensures.written c.write_cells.ensures.written }
