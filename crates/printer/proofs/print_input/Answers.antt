-- `printer::print_input` meets its contract: the list stands inside the input (`inputs`: `Queries`), and an accepted input leaves its cells (`LentLaws`).
-- Assumes nothing.
use Rattle.inputs.proofs.Queries.{list_fits}
use Rattle.printer.proofs.LentLaws.{input_accepted}
use Rattle.printer.proofs.print_input.Goals as goal

pub print_list-requires : goal.print_list-requires
print_list-requires c = list_fits _ _ _ c.in-Ok.ensures.parsed

pub returns-in-Ok : goal.returns-in-Ok
returns-in-Ok c = record { done = input_accepted _ _ c.in-Ok.ensures.parsed c.print_list.ensures.done }
