-- What operations on single cells and edges ask, cited by this crate's contracts.
--   InTable r table v y <-> the cell of letter y at v lies in the room
--   Edge r table v y    <-> so, and it leads to a point of the room
--   Ends r a y b        <-> a and b are points made, y is a letter
-- Assumes nothing.
use Rattle.std.specs.Prelude.{List, ℕ, ◌*◌, ◌≤◌, ◌<◌, length}
use Rattle.theory.specs.Tables.{cell}
use Rattle.rooms.specs.declared.Room.{Room}

pub record InTable (r : Room) (table : List ℕ) (v y : ℕ) : Type 0 where
  pub most : r.n ≤ 26
  pub row : v < r.rows
  pub letter : y < 2 * r.n
  pub lent : r.rows * (2 * r.n) ≤ length table

pub record Edge (r : Room) (table : List ℕ) (v y : ℕ) : Type 0 where
  pub at : InTable r table v y
  pub far : cell r.n r.rows table v y < r.rows

pub record Ends (r : Room) (a y b : ℕ) : Type 0 where
  pub from : a < r.made
  pub to : b < r.made
  pub letter : y < 2 * r.n
