-- `edges::pass_rows` meets its contract. The loop: the tally before row v (`TallyLaws`).
-- Assumes nothing.
use Rattle.theory.specs.Letters.{usual}
use Rattle.theory.specs.Tables.{cell}
use Rattle.edges.specs.Edges.{tally_before}
use mathlib.Core.Path.{◌≡◌}
use Rattle.edges.proofs.pass_rows.Given as goal

abbrev pub invariant-loop-v : goal.invariant-loop-v
invariant-loop-v l = l.sum ≡ tally_before (cell l.t.n l.t.points l.t.cells.now) l.t.points (usual l.t.n) l.v
