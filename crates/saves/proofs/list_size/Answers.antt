-- `list_size` meets its contract: the head and the words (`ListLaws`).
-- Assumes nothing.
use native.Mathlib.Omega.{arith}
use Rattle.saves.proofs.CellLaws.{head_few}
use Rattle.saves.proofs.WordLaws.{size_few}
use Rattle.saves.proofs.ListLaws.{count_fits, list_sized}
use Rattle.saves.proofs.list_size.Goals as goal

pub head_size-head-requires : goal.head_size-head-requires
head_size-head-requires c = (omega (arith, c.requires.0), count_fits c.args.list.now c.requires.1 c.count-counts.ensures.counts.words)

pub overflow_add-result : goal.overflow_add-result
overflow_add-result c = record { fits = omega (arith, c.head_size-head.ensures.size, head_few 2 c.args.n c.count-counts.result.words, c.words_size.ensures.size, size_few c.args.list.now, c.requires.1) }

pub returns : goal.returns
returns c = record { size = list_sized _ _ c.count-counts.ensures.counts.words c.head_size-head.ensures.size c.words_size.ensures.size }
