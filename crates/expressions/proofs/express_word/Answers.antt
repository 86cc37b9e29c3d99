-- `expressions::express_word` meets its contract. The word is outside, its numbers do not fit, or they are written (`AnswerLaws`).
-- Assumes nothing.
use mathlib.Core.Path.{sym, ◌∙◌}
use Rattle.std.proofs.lemmas.Result.{err_from_is_err_and}
use Rattle.tables.proofs.LentLaws.{sound}
use Rattle.expressions.proofs.AnswerLaws.{word_narrow, word_written}
use Rattle.expressions.proofs.express_word.Goals as goal

pub returns-in_err-check_room : goal.returns-in_err-check_room
returns-in_err-check_room c =
    let p = err_from_is_err_and c.from_residual.result c.from_residual.ensures.1 in
    record { outcome = rw (p.1, p.2) (word_narrow _ (sound c.args.t.now) (sym c.is_home.ensures.home ∙ c.if-not-is_home.false) c.count_crossings-crossed.ensures.crossings c.in_err-check_room.ensures.checked) }

pub returns : goal.returns
returns c = record { outcome = word_written _ (sound c.args.t.now) (sym c.is_home.ensures.home ∙ c.if-not-is_home.false) c.count_crossings-crossed.ensures.crossings c.in_ok-check_room.ensures.checked c.write_numbers.ensures.numbers c.write_numbers.ensures.marked }
