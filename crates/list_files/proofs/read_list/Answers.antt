-- Where no number of words stands, and where one does (ReadLaws).
-- Assumes nothing.
use Rattle.std.proofs.lemmas.Result.{err_from_is_err_and}
use Rattle.list_files.proofs.SkipTurn.{word_inside}
use Rattle.list_files.proofs.ReadLaws.{read_missing, read_count}
use Rattle.list_files.proofs.read_list.Goals as goal

pub returns-in_err-number : goal.returns-in_err-number
returns-in_err-number c =
    let p = err_from_is_err_and c.from_residual.result c.from_residual.ensures.1 in
    record { outcome = rw (p.1, p.2) (read_missing _ _ _ _ c.in_err-number.ensures.number) }

pub read_words-requires : goal.read_words-requires
read_words-requires c = (c.requires.0, (word_inside _ _ c.in_ok-number.number c.in_ok-number.ensures.number c.requires.1).1)

pub returns : goal.returns
returns c =
    record {
      outcome =
          read_count _ _ _ _ c.in_ok-number.number c.in_ok-number.ensures.number
          c.read_words.ensures.answer c.read_words.ensures.cells;
    }
