-- `edges::mark_row` meets its contract. Rows of marks are small (`MarkLaws`).
-- Assumes nothing.
use Rattle.edges.proofs.MarkLaws.{row_small}
use Prim.Native.Nat.{◌≤◌}
use native.Mathlib.Omega.{arith}
use Rattle.edges.proofs.mark_row.Goals as goal

pub overflow_mul-j : goal.overflow_mul-j
overflow_mul-j c = let h : c.args.j ≤ 1048576 = omega (arith, c.requires.few, c.requires.mark) in omega (arith, row_small _ c.args.marks c.args.j c.run_of.ensures.run c.args.t.now.lent.points h)
