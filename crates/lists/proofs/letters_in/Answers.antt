use Rattle.lists.proofs.CountTurn.{head_letter, head_line_end, head_done}
use Rattle.lists.proofs.letters_in.Goals as goal
use Rattle.lists.proofs.letters_in.Goals.{then-b-ne10, else-b-ne10}

pub loop-b-preserved : goal.loop-b-preserved
loop-b-preserved c =
    elim c.if-b-ne10.branch [
      | then-b-ne10 w ↦ rw w.found-is (head_letter c.loop-b.invariant c.loop-b-test.true w.if-b-ne10.true)
      | else-b-ne10 w ↦ rw w.found-is (head_line_end c.loop-b.invariant c.loop-b-test.true w.if-b-ne10.false)
    ]

pub returns : goal.returns
returns c = record { letters = head_done c.loop-b.invariant c.loop-b-test.false }
