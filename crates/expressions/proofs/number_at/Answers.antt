-- `expressions::number_at` meets its contract. The edge stands at the place without its sign, and its number takes the sign on (`PlaceLaws`).
-- Assumes nothing.
use mathlib.Core.Path.{◌≡◌, ◌∙◌, ap}
use lib.IntN.{nat_abs}
use mir.Syntax.{w32}
use mir.ValLaws.{to_z-of_z}
use Rattle.expressions.proofs.SignLaws.{read_back, below}
use Rattle.expressions.proofs.PlaceLaws.{number_signed}
use Rattle.expressions.proofs.number_at.Goals as goal

pub returns : goal.returns
returns c =
    let small = c.requires.place.small in
    let size : c.unsigned_abs-place.result ≡ nat_abs c.args.z = c.unsigned_abs-place.ensures.value ∙ ap nat_abs (read_back c.args.z small) in
    record { number = to_z-of_z w32 _ (record { sfits = c.signed.type_inv }) ∙ c.signed.ensures.signed ∙ number_signed _ _ _ c.args.z size c.number_of-k.ensures.number (below c.args.z small) }
