-- The words were read through, so each is there, and its line has room (PutTurn).
-- Assumes nothing.
use Rattle.list_files.proofs.PutTurn.{head_todo, head_room, head_turn, head_done}
use Rattle.list_files.proofs.put_words.Goals as goal

pub put_word-places-requires : goal.put_word-places-requires
put_word-places-requires c = (
  c.requires.0,
  c.loop.invariant.inside,
  head_room c.loop.invariant c.loop-test.true,
  head_todo c.loop.invariant c.loop-test.true,
)

pub loop-preserved : goal.loop-preserved
loop-preserved c = head_turn c.loop.invariant c.loop-test.true c.put_word-places.ensures.put

pub returns : goal.returns
returns c = record { text = head_done c.loop.invariant c.loop-test.false }
