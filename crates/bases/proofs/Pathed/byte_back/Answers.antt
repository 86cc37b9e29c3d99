-- `bases::Pathed::byte_back` meets its contract. The inverse of a letter is a letter (`ChainLaws`).
-- Assumes nothing.
use native.Mathlib.Omega.{arith}
use Rattle.bases.proofs.ChainLaws.{inverse_small}
use Rattle.bases.proofs.Pathed.byte_back.Goals as goal

pub byte_of-requires : goal.byte_of-requires
byte_of-requires c = omega (arith, c.inverse.ensures.inverse, inverse_small _ c.letter_to.ensures.small)
