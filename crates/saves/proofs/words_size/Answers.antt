use mathlib.Core.Path.{refl}
use native.Mathlib.Omega.{arith}
use Rattle.lists.proofs.CountTurn.{next_further}
use Rattle.numbers.proofs.NumberLaws.{number_fits}
use Rattle.saves.proofs.RunLaws.{sized_done}
use Rattle.saves.proofs.WordLaws.{read_short, size_few, words_low, words_sized, words_over}
use Rattle.saves.proofs.words_size.Goals as goal

pub number_size-requires : goal.number_size-requires
number_size-requires c = omega (arith, read_short c.args.list.now c.loop-at.at c.word_length-read.ensures.length, c.requires)

pub overflow_add-size : goal.overflow_add-size
overflow_add-size c = record { fits = omega (arith, read_short c.args.list.now c.loop-at.at c.word_length-read.ensures.length, c.requires, c.number_size.ensures.size, number_fits c.word_length-read.result) }

pub overflow_add-size-in-loop-at : goal.overflow_add-size-in-loop-at
overflow_add-size-in-loop-at c = record { fits = omega (arith, words_low c.args.list.now c.loop-at-test.true refl c.loop-at.invariant c.word_length-read.ensures.length c.number_size.ensures.size, size_few c.args.list.now, c.requires) }

pub loop-at-smaller : goal.loop-at-smaller
loop-at-smaller c = next_further _ _ _ c.loop-at-test.true c.next_start-at.ensures.next

pub loop-at-preserved : goal.loop-at-preserved
loop-at-preserved c = words_sized _ c.loop-at-test.true c.next_start-at.ensures.next c.loop-at.invariant c.word_length-read.ensures.length c.number_size.ensures.size

pub returns : goal.returns
returns c = record { size = sized_done c.loop-at.invariant (words_over _ _ c.loop-at-test.false) }
