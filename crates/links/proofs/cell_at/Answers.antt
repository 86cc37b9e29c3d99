-- `links::cell_at` meets its contract.
-- Assumes nothing.
use Rattle.links.proofs.LinkLaws.{cell_there}
use Rattle.links.proofs.cell_at.Goals as goal

pub returns : goal.returns
returns c = record { leads = cell_there c.requires }
