-- `write_word` meets its contract: the length, then the letters (`WordLaws`).
-- Assumes nothing.
use native.Mathlib.Omega.{arith}
use Rattle.theory.proofs.TextLaws.{word_length_le}
use Rattle.saves.proofs.WordLaws.{length_room, letters_room, word_made}
use Rattle.saves.proofs.write_word.Goals as goal

pub returns : goal.returns
returns c = record { written = word_made _ c.word_length-read.ensures.length _ _ c.requires.1 c.write_number-first.ensures.written c.write_letters.ensures.written }

pub write_number-first-requires : goal.write_number-first-requires
write_number-first-requires c = (omega (arith, c.word_length-read.ensures.length, word_length_le c.args.part.now, c.requires.0), length_room c.args.part.now c.word_length-read.ensures.length c.args.out.now c.args.at c.requires.1)

pub write_letters-requires : goal.write_letters-requires
write_letters-requires c = (c.word_length-read.ensures.length, letters_room _ c.word_length-read.ensures.length _ _ c.requires.1 c.write_number-first.ensures.written)
