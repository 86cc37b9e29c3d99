use mathlib.Core.Path.{◌∙◌}
use native.Mathlib.Omega.{arith}
use Rattle.takes.proofs.ReadTurn.{back_first, back_asks, back_next, back_stop, back_done}
use Rattle.takes.proofs.read_back.Goals as goal

pub loop-i-init : goal.loop-i-init
loop-i-init c = (cc, back_first c.requires (cc))

pub cell_at-x-requires : goal.cell_at-x-requires
cell_at-x-requires c = back_asks c.requires c.loop-i.invariant.1 _ _ c.in-Some.ensures.steps.1.0 c.inverse.ensures.inverse

pub returns-then-x : goal.returns-then-x
returns-then-x c = record {
  back = back_stop c.requires c.loop-i.invariant.1 _ _ c.in-Some.ensures.steps.1.0 c.inverse.ensures.inverse c.cell_at-x.ensures.leads
      (omega (arith, c.in-Some.ensures.steps)) c.if-x.true;
}

pub loop-i-preserved : goal.loop-i-preserved
loop-i-preserved c = (
  c.in-Some.ensures.steps.0 ∙ c.loop-i.invariant.0,
  back_next c.requires c.loop-i.invariant.1 _ _ c.in-Some.ensures.steps.1.0 c.inverse.ensures.inverse c.cell_at-x.ensures.leads c.if-x.false,
)

pub returns : goal.returns
returns c = record { back = back_done c.requires c.loop-i.invariant.1 c.in-None.ensures.steps.1.0 }
