-- `edges::pass_rows` meets its contract. After the row's last letter comes the next row (`TallyLaws`).
-- Assumes nothing.
use Rattle.tables.proofs.LentLaws.{sound}
use Rattle.edges.proofs.TallyLaws.{tally_whole}
use mathlib.Core.Path.{◌∙◌}
use Rattle.edges.proofs.pass_rows.Goals as goal

pub loop-v-preserved : goal.loop-v-preserved
loop-v-preserved c = c.pass_cells-sum.ensures.tally ∙ tally_whole (sound c.args.t.now) _
