-- How far a word in lent cells is read from the base, forward and backward, cited by `read_front` and `read_back`.
--   Readable r table w <-> the cells of the room name points made, the base is made, and w has letters of n generators
--   FrontOf c w r      <-> r has the point where reading w forward stopped, and how many letters were read
--   BackOf c w r       <-> r has the point where reading w backward, by inverses, stopped, and how many letters are left
-- Assumes nothing.
use Rattle.std.specs.Prelude.{◌≡◌, List, ℕ, ◌*◌, ◌≤◌, ◌<◌, length, get_or, take, drop}
use Rattle.theory.specs.Words.{inverse_of}
use Rattle.theory.specs.Tables.{Cells, Leads, cell}
use Rattle.engine.specs.Engine.{ahead}
use Rattle.rooms.specs.declared.Room.{Room}
use Rattle.takes.specs.declared.Stop.{Stop}

pub record Readable (r : Room) (table w : List ℕ) : Type 0 where
  pub most : r.n ≤ 26
  pub inside : r.made ≤ r.rows
  pub lent : r.rows * (2 * r.n) ≤ length table
  pub named : (v y x : ℕ) → Leads (cell r.n r.rows table) v y x → x < r.made
  pub base : 0 < r.made
  pub letters : (i : ℕ) → i < length w → get_or w i 0 < 2 * r.n

pub record FrontOf (c : Cells) (w : List ℕ) (r : Stop) : Type 0 where
  pub point : r.point ≡ (ahead c 0 w).point
  pub inside : r.count ≤ length w
  pub rest : drop r.count w ≡ (ahead c 0 w).rest

pub record BackOf (c : Cells) (w : List ℕ) (r : Stop) : Type 0 where
  pub point : r.point ≡ (ahead c 0 (inverse_of w)).point
  pub inside : r.count ≤ length w
  pub rest : take r.count w ≡ inverse_of (ahead c 0 (inverse_of w)).rest
