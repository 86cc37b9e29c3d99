use Prim.Native.Nat.{◌+◌, ◌-◌, ◌*◌}
use native.Mathlib.Omega.{arith}
use lib.ListN.{take, drop, length-take}
use Rattle.tables.proofs.CellTurn.{present_le, present_first, present_there, present_absent, present_done, row_counted}
use Rattle.tables.proofs.Lent.is_thin.Goals as goal
use Rattle.tables.proofs.Lent.is_thin.Goals.{then-x, else-x}

pub loop-x-init : goal.loop-x-init
loop-x-init c = present_first

pub overflow_add-found : goal.overflow_add-found
overflow_add-found c =
    let s = c.args.self.now.lent in
    let w = 2 * c.args.self.now.n in
    let at = c.args.v * w in
    omega (
      arith,
      s.letters,
      c.loop-x-test.true,
      c.loop-x.invariant,
      present_le (take c.loop-x.x-index (take (at + w - at) (drop at c.args.self.now.cells.now))),
      length-take c.loop-x.x-index (take (at + w - at) (drop at c.args.self.now.cells.now)),
      length-take (at + w - at) (drop at c.args.self.now.cells.now),
    )

pub loop-x-preserved : goal.loop-x-preserved
loop-x-preserved c =
    elim c.if-x.branch [
      | then-x w ↦ rw w.found-is (present_there _ c.loop-x.invariant c.loop-x-test.true w.if-x.true)
      | else-x w ↦ rw w.found-is (present_absent _ c.loop-x.invariant c.loop-x-test.true w.if-x.false)
    ]

pub returns : goal.returns
returns c = record { thin = row_counted c.args.self.now.lent c.requires (present_done _ c.loop-x.invariant c.loop-x-test.false) }
