-- `cells::fill` meets its contract: the filled part, and the cells behind it (`Filled`).
-- Assumes nothing.
use mathlib.Core.Path.{◌∙◌, ap}
use Prim.Native.Nat.{◌≤◌}
use lib.ListN.{drop, replicate, length-take}
use native.Mathlib.Omega.{arith}
use mathlib.Core.List.{◌++◌}
use Rattle.cells.specs.Filled.{filled}
use Rattle.cells.proofs.fill.Goals as goal

pub returns : goal.returns
unfolding filled
returns c =
    let part = c.fill.ensures.after (λ y e. e) in
    let count = length-take c.args.count c.args.cells.now in
    record { filled = ap (λ front. front ++ drop c.args.count c.args.cells.now) (part ∙ ap (λ k. replicate k c.args.value) (count ∙ omega (arith, c.requires))) }
