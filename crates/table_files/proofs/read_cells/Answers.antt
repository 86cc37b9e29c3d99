-- The stages of `points_in`, one after the other (ReadLaws).
-- Assumes nothing.
use mathlib.Core.Path.{◌∙◌, ap}
use Rattle.tables.proofs.LentLaws.{lent_size}
use Rattle.table_files.specs.TableFiles.{read_for, table_for}
use Rattle.table_files.proofs.ReadLaws.{cells_whole, cells_filled, skip_count}
use Rattle.table_files.proofs.read_cells.Goals as goal

pub fill_table-requires-clause-whole : goal.fill_table-requires-clause-whole
fill_table-requires-clause-whole c =
    let e = c.in_ok-lend.ensures.same in
    cells_whole _ _ _ c.args.table.now _ _ c.requires.here
    (c.in_ok-end.ensures.skipped ∙ skip_count _ _ (rw (e.0, e.1) at c.cell_count-count.ensures.count))

pub returns : goal.returns
returns c =
    let e = c.in_ok-lend.ensures.same in
    let m =
    cells_filled _ _ _ c.args.table.now _ _ c.requires.here (lent_size (rw (e.0, e.1, e.2) at c.in_ok-lend.field-0.lent))
    (c.in_ok-end.ensures.skipped ∙ skip_count _ _ (rw (e.0, e.1) at c.cell_count-count.ensures.count)) c.if-end-file.false in
    record {
      answer = c.fill_table.ensures.answer ∙ ap read_for m;
      cells = c.fill_table.ensures.cells ∙ ap (table_for c.args.table.now) m;
    }
