use mathlib.Core.Path.{refl}
use Rattle.lists.proofs.CountTurn.{next_further}
use Rattle.saves.proofs.RunLaws.{run_done}
use Rattle.saves.proofs.WordLaws.{part_short, word_room, words_run, words_over}
use Rattle.saves.proofs.write_words.Goals as goal

pub write_word-p-requires : goal.write_word-p-requires
write_word-p-requires c = (part_short c.args.list.now c.loop-i.i c.requires.0, word_room c.args.list.now c.loop-i-test.true refl c.loop-i.invariant)

pub loop-i-preserved : goal.loop-i-preserved
loop-i-preserved c = words_run _ c.loop-i-test.true c.next_start-i.ensures.next c.loop-i.invariant c.write_word-p.ensures.written

pub loop-i-smaller : goal.loop-i-smaller
loop-i-smaller c = next_further _ _ _ c.loop-i-test.true c.next_start-i.ensures.next

pub returns : goal.returns
returns c = record { written = run_done c.loop-i.invariant (words_over _ _ c.loop-i-test.false) }
