-- `numbering::mend` meets its contract. The outcomes are those of `TradeTurn`.
-- Assumes nothing.
use mathlib.Core.Path.{refl}
use Rattle.links.proofs.LinkLaws.{back_in}
use Rattle.numbering.proofs.TradeTurn.{mend_none, mend_first, mend_second, mend_far}
use Rattle.numbering.proofs.mend.Goals as goal

pub returns-then-q-eq-ABSENT : goal.returns-then-q-eq-ABSENT
returns-then-q-eq-ABSENT c = record { mended = mend_none _ _ _ _ _ c.if-q-eq-ABSENT.true }

pub returns-then-q-k : goal.returns-then-q-k
returns-then-q-k c = record { mended = mend_first _ _ _ _ _ c.if-q-eq-ABSENT.false c.if-q-k.true }

pub returns-then-q-p : goal.returns-then-q-p
returns-then-q-p c = record { mended = mend_second _ _ _ _ _ c.if-q-eq-ABSENT.false c.if-q-k.false c.if-q-p.true }

pub put_at-requires : goal.put_at-requires
put_at-requires c = back_in c.requires.inside refl (c.requires.cell c.if-q-eq-ABSENT.false) c.inverse.ensures.inverse

pub returns : goal.returns
returns c = record {
  mended = mend_far _ _ _ _ _ c.if-q-eq-ABSENT.false c.if-q-k.false c.if-q-p.false c.inverse.ensures.inverse
      c.put_at.ensures.put;
}
