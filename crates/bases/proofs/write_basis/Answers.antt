-- `bases::write_basis` meets its contract. The paths are noted, the size is summed; then 9, or the text (`AnswerLaws`).
-- Assumes nothing.
use Rattle.bases.proofs.AnswerLaws.{early_clear, fits, late_refused, written}
use Rattle.bases.proofs.write_basis.Goals as goal

pub returns-then-out-size : goal.returns-then-out-size
returns-then-out-size c =
    let fine = early_clear _ _ _ _ c.args.t.now.lent c.args.t.now.sound c.requires.room in
    record { outcome = late_refused _ _ _ _ _ fine c.note_paths.ensures.paths c.measure-size.ensures.size c.if-out-size.true c.refuse.ensures.made c.fill.ensures.filled }

pub write_words-requires : goal.write_words-requires
write_words-requires c =
    let fine = early_clear _ _ _ _ c.args.t.now.lent c.args.t.now.sound c.requires.room in
    record { room = fits _ _ _ c.args.work.now c.args.out.now fine c.note_paths.ensures.paths c.measure-size.ensures.size c.if-out-size.false }

pub returns : goal.returns
returns c =
    let fine = early_clear _ _ _ _ c.args.t.now.lent c.args.t.now.sound c.requires.room in
    record { outcome = written _ _ _ _ _ fine c.note_paths.ensures.paths c.measure-size.ensures.size c.if-out-size.false c.write_words.ensures.text c.fill-2.ensures.filled }
