-- `expressions::write_numbers` meets its contract. Places, marks, and the numbers in the places' stead (`AnswerLaws`).
-- Assumes nothing.
use Rattle.tables.proofs.LentLaws.{sound}
use Rattle.expressions.proofs.AnswerLaws.{places_ready, numbers_written}
use Rattle.expressions.proofs.write_numbers.Goals as goal

pub number_places-requires-clause-places : goal.number_places-requires-clause-places
number_places-requires-clause-places c = places_ready (sound c.args.t.now) _ _ c.requires.home c.requires.crossed c.write_places.ensures.written

pub returns-clause-numbers : goal.returns-clause-numbers
returns-clause-numbers c = numbers_written (sound c.args.t.now) _ _ c.requires.home c.requires.crossed c.write_places.ensures.written c.number_places.ensures.numbered
