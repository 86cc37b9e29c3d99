-- `rooms::send` meets its contract. Two stores.
-- Assumes nothing.
use mathlib.Core.Path.{refl}
use Rattle.rooms.specs.Uniting.{sent}
use Rattle.rooms.proofs.send.Goals as goal

pub returns : goal.returns
returns c = record { sent = unfold sent in refl }
