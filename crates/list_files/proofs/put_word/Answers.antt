-- A word stands there (PutTurn): it was read through.
-- Assumes nothing.
use Rattle.list_files.proofs.SkipTurn.{word_inside}
use Rattle.list_files.proofs.PutTurn.{word_there, line_whole, line_room, line_put}
use Rattle.list_files.proofs.put_word.Goals as goal

pub returns-in_default : goal.returns-in_default
returns-in_default c = absurd (word_there _ _ _ c.in_default.ensures.number.1 c.requires.3)

pub put_letters-requires : goal.put_letters-requires
put_letters-requires c = (
  c.requires.0,
  (word_inside _ _ c.in-Ok.number c.in-Ok.ensures.number c.requires.1).1,
  line_room _ _ _ c.in-Ok.number c.in-Ok.ensures.number c.requires.3 _ _ c.requires.1 c.requires.2,
  line_whole _ _ _ c.in-Ok.number c.in-Ok.ensures.number c.requires.3,
)

pub returns : goal.returns
returns c = record { put = line_put _ _ _ c.in-Ok.number c.in-Ok.ensures.number c.requires.3 c.put_letters.ensures.put }
