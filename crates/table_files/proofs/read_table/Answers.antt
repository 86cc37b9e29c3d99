-- Where no number of points stands, and where one does (ReadLaws).
-- Assumes nothing.
use Rattle.std.proofs.lemmas.Result.{err_from_is_err_and}
use Rattle.table_files.proofs.ReadLaws.{read_missing, read_behind, read_points}
use Rattle.table_files.proofs.read_table.Goals as goal

pub returns-in_err-number : goal.returns-in_err-number
returns-in_err-number c =
    let p = err_from_is_err_and c.from_residual.result c.from_residual.ensures.1 in
    record { outcome = rw (p.1, p.2) (read_missing _ _ _ _ c.in_err-number.ensures.number) }

pub read_cells-requires : goal.read_cells-requires
read_cells-requires c =
    let b = read_behind c.args.n _ c.args.table.now _ c.in_ok-number.number c.in_ok-number.ensures.number c.requires.1 in
    record { alphabet = c.requires.0; inside = b.0; here = b.1 }

pub returns : goal.returns
returns c =
    record {
      outcome =
          read_points _ _ _ _ c.in_ok-number.number c.in_ok-number.ensures.number
          (c.read_cells.ensures.answer, c.read_cells.ensures.cells);
    }
