use native.Mathlib.Omega.{arith}
use Rattle.bases.specs.Chains.{path_bytes}
use Rattle.bases.proofs.PathedLaws.{pathed, chain}
use Rattle.bases.proofs.ChainLaws.{up_first, up_link, up_turn, up_done}
use Rattle.bases.proofs.Pathed.write_path.Goals as goal

pub loop-i-init : goal.loop-i-init
loop-i-init c = up_first (omega (arith, c.depth.ensures.depth)) (chain (pathed c.args.self.now) _ c.requires.point)

pub byte_to-requires : goal.byte_to-requires
byte_to-requires c = record { point = up_link c.loop-i.invariant c.loop-i-test.true }

pub bounds-self-p : goal.bounds-self-p
bounds-self-p c = omega (arith, up_link c.loop-i.invariant c.loop-i-test.true)

pub loop-i-preserved : goal.loop-i-preserved
loop-i-preserved c = up_turn c.loop-i.invariant c.loop-i-test.true c.byte_to.ensures.byte

pub returns : goal.returns
unfolding path_bytes
returns c = record { path = up_done c.loop-i.invariant c.loop-i-test.false }
