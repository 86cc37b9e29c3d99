-- `save_checked` meets its contract: 9, or the file (`SaveLaws`).
-- Assumes nothing.
use Rattle.std.proofs.lemmas.Result.{err_from_is_err_and}
use Rattle.saves.proofs.SaveLaws.{table_fine, table_short, table_room, table_written}
use Rattle.saves.proofs.save_checked.Goals as goal

pub returns-in_err-check_room : goal.returns-in_err-check_room
returns-in_err-check_room c =
    let p = err_from_is_err_and c.from_residual.result c.from_residual.ensures.1 in
    record { outcome = rw (p.1, p.2) (table_short _ _ _ _ (table_fine c.args.t.now.lent c.requires.sound) c.table_size-needed.ensures.size c.in_err-check_room.ensures.checked) }

pub write_table-requires : goal.write_table-requires
write_table-requires c = record { room = table_room _ _ _ _ (table_fine c.args.t.now.lent c.requires.sound) c.table_size-needed.ensures.size c.in_ok-check_room.ensures.checked }

pub returns : goal.returns
returns c = record { outcome = table_written _ _ _ _ (table_fine c.args.t.now.lent c.requires.sound) c.table_size-needed.ensures.size c.in_ok-check_room.ensures.checked c.write_table.ensures.written }
