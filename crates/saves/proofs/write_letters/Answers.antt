use mathlib.Core.Path.{◌∙◌}
use Rattle.saves.proofs.RunLaws.{run_room, run_turn, run_done}
use Rattle.saves.proofs.WordLaws.{letter_fits, read_taken, letters_next, letters_end}
use Rattle.saves.proofs.write_letters.Goals as goal

pub slice_bounds-b-items-end : goal.slice_bounds-b-items-end
slice_bounds-b-items-end c = read_taken _ c.requires.0

pub loop-b-preserved : goal.loop-b-preserved
loop-b-preserved c = run_turn c.loop-b.invariant (letters_next _ c.requires.0 _ c.loop-b-test.true (c.from.ensures ∙ c.letter_of.ensures.letter)) c.write_number-p.ensures.written

pub write_number-p-requires : goal.write_number-p-requires
write_number-p-requires c = (letter_fits _ _ (c.from.ensures ∙ c.letter_of.ensures.letter), run_room c.loop-b.invariant (letters_next _ c.requires.0 _ c.loop-b-test.true (c.from.ensures ∙ c.letter_of.ensures.letter)))

pub returns : goal.returns
returns c = record { written = run_done c.loop-b.invariant (letters_end _ c.requires.0 _ c.loop-b-test.false) }
