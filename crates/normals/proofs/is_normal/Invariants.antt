-- `normals::is_normal` meets its contract. The loop: the letters before this one pass at the base (`BaseTurn`).
-- Assumes nothing.
use Rattle.normals.proofs.BaseTurn.{Asked}
use mathlib.Core.Path.{◌≡◌}
use Rattle.normals.proofs.is_normal.Given as goal

abbrev pub invariant-loop-letter : goal.invariant-loop-letter
invariant-loop-letter l = Asked l.t.n l.t.points l.t.cells.now l.letter × (l.work ≡ l.initial.work)
