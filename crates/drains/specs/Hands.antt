-- What moving the edges of a point asks, cited by `clear_row`.
--   InHand r table work count v u <-> v is in hand and u another live name of its point (engine, `Handles`), and the pending list has room
-- Assumes nothing.
use Rattle.std.specs.Prelude.{List, [], ℕ}
use Rattle.theory.specs.Letters.{usual}
use Rattle.engine.specs.Stages.{Handles, Roomy}
use Rattle.rooms.specs.declared.Room.{Room}
use Rattle.rooms.specs.Rooms.{state_in, Lent}

pub record InHand (r : Room) (table work : List ℕ) (count v u : ℕ) : Type 0 where
  pub lent : Lent r table work
  pub handles : Handles (λ w. Unit {0}) (λ p. []) (usual r.n) (state_in r table work count) v u
  pub roomy : Roomy (state_in r table work count)
