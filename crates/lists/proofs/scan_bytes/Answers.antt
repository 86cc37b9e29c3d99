use mathlib.Core.Path.{◌∙◌, ap}
use native.Mathlib.Omega.{arith}
use Rattle.std.specs.declared.result.Result.TheVariants.{Err}
use Rattle.lists.proofs.ScanTurn.{over_own, passed_turn, passed_stop, passed_end}
use Rattle.lists.proofs.scan_bytes.Goals as goal

pub returns-in-Some : goal.returns-in-Some
returns-in-Some c =
    let d = over_own _ c.args.n _ _ c.in-Some.ensures.draws (omega arith) in
    record { first = ap Err c.refuse.ensures.made ∙ passed_stop _ _ _ _ c.loop-i.invariant c.loop-i-test.true d }

pub loop-i-preserved : goal.loop-i-preserved
loop-i-preserved c = passed_turn _ _ _ _ c.loop-i.invariant c.loop-i-test.true (over_own _ _ _ _ c.in_default.ensures.draws (omega arith))

pub returns : goal.returns
returns c = record { first = passed_end _ _ _ _ c.loop-i.invariant c.loop-i-test.false }
