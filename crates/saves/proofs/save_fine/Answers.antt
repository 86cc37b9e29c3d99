-- `save_fine` meets its contract: 9, or the file (`SaveLaws`).
-- Assumes nothing.
use Rattle.std.proofs.lemmas.Result.{err_from_is_err_and}
use Rattle.saves.proofs.ListLaws.{savable_list}
use Rattle.saves.proofs.SaveLaws.{list_short, list_room, list_written}
use Rattle.saves.proofs.save_fine.Goals as goal

pub list_size-needed-requires : goal.list_size-needed-requires
list_size-needed-requires c = savable_list _ _ c.requires

pub returns-in_err-check_room : goal.returns-in_err-check_room
returns-in_err-check_room c =
    let p = err_from_is_err_and c.from_residual.result c.from_residual.ensures.1 in
    record { outcome = rw (p.1, p.2) (list_short _ _ _ c.requires c.list_size-needed.ensures.size c.in_err-check_room.ensures.checked) }

pub write_list-requires : goal.write_list-requires
write_list-requires c = (savable_list _ _ c.requires, list_room _ _ _ c.requires c.list_size-needed.ensures.size c.in_ok-check_room.ensures.checked)

pub returns : goal.returns
returns c = record { outcome = list_written _ _ _ c.requires c.list_size-needed.ensures.size c.in_ok-check_room.ensures.checked c.write_list.ensures.written }
