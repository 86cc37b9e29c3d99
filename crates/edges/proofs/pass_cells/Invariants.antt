-- `edges::pass_cells` meets its contract. The loop: the tally of the cells before letter y of row v (`TallyLaws`).
-- Assumes nothing.
use Rattle.theory.specs.Letters.{usual}
use Rattle.theory.specs.Tables.{cell}
use Rattle.edges.specs.Steps.{tally_at}
use mathlib.Core.Path.{◌≡◌}
use Rattle.edges.proofs.pass_cells.Given as goal

abbrev pub invariant-loop-y : goal.invariant-loop-y
invariant-loop-y l = l.sum ≡ tally_at (cell l.t.n l.t.points l.t.cells.now) l.t.points (usual l.t.n) l.v l.y
