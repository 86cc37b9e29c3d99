-- `lists::scan_end` meets its contract. The answers are the cases of `last_of`.
-- Assumes nothing.
use mathlib.Core.Path.{sym, ◌∙◌, ap}
use Rattle.std.specs.declared.result.Result.TheVariants.{Err}
use Rattle.lists.specs.Scans.{last_of}
use Rattle.lists.proofs.scan_end.Goals as goal
use Rattle.lists.proofs.scan_end.Goals.{else-lines-via-then-lines+else-unended, else-lines-via-else-lines}

pub returns-then-unended : goal.returns-then-unended
unfolding last_of
returns-then-unended c = record { last = ap Err c.refuse.ensures.made ∙ rw (c.if-lines.true, sym c.if-unended.ensures.unended) }

pub returns : goal.returns
unfolding last_of
returns c =
    elim c.else-lines.branch [
      | else-lines-via-then-lines+else-unended w ↦ record { last = rw (w.if-lines.true, sym w.if-unended.ensures.unended) }
      | else-lines-via-else-lines w ↦ record { last = rw w.if-lines.false }
    ]
