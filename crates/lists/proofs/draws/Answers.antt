-- `lists::draws` meets its contract. Each arm is what the class says of the byte (`ScanTurn`).
-- Assumes nothing.
use mathlib.Core.Path.{sym, ◌∙◌, ap}
use mathlib.Core.Bool.{cond}
use Rattle.lists.specs.Scans.{drawn_as, beyond_draws}
use Rattle.lists.proofs.ScanTurn.{drawn_told}
use Rattle.lists.proofs.draws.Goals as goal

pub returns-in-Lower : goal.returns-in-Lower
unfolding beyond_draws
returns-in-Lower c = record { draws = c.beyond.ensures.draws ∙ ap (λ g. beyond_draws g c.args.n) c.from.ensures ∙ drawn_told c.args.n c.args.lines c.args.b c.ranges.b.fits c.class_of.ensures.class c.in-Lower.is }

pub returns-in-Upper : goal.returns-in-Upper
unfolding beyond_draws
returns-in-Upper c = record { draws = c.beyond-in-Upper.ensures.draws ∙ ap (λ g. beyond_draws g c.args.n) c.from-in-Upper.ensures ∙ drawn_told c.args.n c.args.lines c.args.b c.ranges.b.fits c.class_of.ensures.class c.in-Upper.is }

pub returns-in-LineEnd : goal.returns-in-LineEnd
returns-in-LineEnd c = record { draws = ap (λ l. drawn_as (cond l 0 3)) (sym c.if-lines.true) ∙ drawn_told c.args.n c.args.lines c.args.b c.ranges.b.fits c.class_of.ensures.class c.in-LineEnd.is }

pub returns-in-LineEnd-2 : goal.returns-in-LineEnd-2
returns-in-LineEnd-2 c = record { draws = ap (λ l. drawn_as (cond l 0 3)) (sym c.if-lines.false) ∙ drawn_told c.args.n c.args.lines c.args.b c.ranges.b.fits c.class_of.ensures.class c.in-LineEnd.is }

pub returns-in-Other : goal.returns-in-Other
returns-in-Other c = record { draws = drawn_told c.args.n c.args.lines c.args.b c.ranges.b.fits c.class_of.ensures.class c.in-Other.is }
