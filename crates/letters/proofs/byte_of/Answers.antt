-- `letters::byte_of` meets its contract. The table's entries are theory's `letter_bytes`.
-- Assumes nothing.
use Rattle.std.proofs.Common.{rules}
use Rattle.theory.specs.Letters.{byte_of, letter_bytes}
use Rattle.letters.proofs.byte_of.Goals as goal

pub returns : goal.returns
unfolding byte_of letter_bytes
returns c = search rules
