-- `edges::pass_cells` meets its contract. Before the row's first letter no cell of it is passed (`TallyLaws`).
-- Assumes nothing.
use Rattle.tables.proofs.LentLaws.{sound}
use Rattle.edges.proofs.TallyLaws.{tally_zero}
use mathlib.Core.Path.{◌∙◌, sym}
use Rattle.edges.proofs.pass_cells.Goals as goal

pub loop-y-init : goal.loop-y-init
loop-y-init c = c.requires.tally ∙ sym (tally_zero (sound c.args.t.now) _)
