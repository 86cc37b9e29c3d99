-- `write_list` meets its contract: the head, then the words (`ListLaws`).
-- Assumes nothing.
use native.Mathlib.Omega.{arith}
use Rattle.saves.proofs.ListLaws.{count_fits, head_room, words_room, list_made}
use Rattle.saves.proofs.write_list.Goals as goal

pub returns : goal.returns
returns c = record { written = list_made _ _ c.count-counts.ensures.counts.words _ c.requires.1 c.write_head-at.ensures.written c.write_words.ensures.written }

pub write_head-at-requires : goal.write_head-at-requires
write_head-at-requires c = (omega (arith, c.requires.0.0), count_fits c.args.list.now c.requires.0.1 c.count-counts.ensures.counts.words, head_room c.args.n c.args.list.now c.count-counts.ensures.counts.words c.args.out.now c.requires.1)

pub write_words-requires : goal.write_words-requires
write_words-requires c = (c.requires.0.1, words_room _ _ c.count-counts.ensures.counts.words _ c.requires.1 c.write_head-at.ensures.written)
