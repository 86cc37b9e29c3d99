-- `words::push` meets its contract. The two outcomes are the two cases of `Pushed` (`PushLaws`).
-- Assumes nothing.
use mathlib.Core.Path.{◌∙◌, sym}
use native.Mathlib.Omega.{arith}
use Rattle.words.proofs.PushLaws.{pushed_gone, pushed_stays}
use Rattle.words.proofs.push.Goals as goal
use Rattle.words.proofs.push.Goals.{then-top-gt0+else-work-last, else-top-gt0}

pub returns-then-work-last : goal.returns-then-work-last
returns-then-work-last c = record { pushed = pushed_gone _ _ _ _ c.requires.0 (omega (arith, c.if-top-gt0.true)) (c.if-work-last.true ∙ c.inverse.ensures.inverse) }

pub returns : goal.returns
returns c = record {
  pushed = pushed_stays _ _ _ _ c.requires.0
      (elim c.if-top-gt0.branch [
        | then-top-gt0+else-work-last w ↦ λ h e. w.if-work-last.false (e ∙ sym w.inverse.ensures.inverse)
        | else-top-gt0 w ↦ λ h e. omega (arith, h, w.if-top-gt0.false)
      ]);
}
