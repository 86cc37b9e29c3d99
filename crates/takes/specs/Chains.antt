-- A chain of new points on lent cells, cited by `grow`, `close` and `chain`.
--   word_in r work           == the cells where a word stands: those behind the forward and the pending cells
--   Growing, GrownIn        <-> what a link to a new point asks and leaves
--   ChainFits, Chained      <-> what chaining the letters first .. end - 1 of those cells from a to b asks and leaves
--   ClosedIn                <-> what the last link of a chain leaves
--   chained_by, chained_cells == the state, and the work cells, once they are chained
-- Assumes nothing.
use Rattle.std.specs.Prelude.{◌≡◌, List, [], ℕ, ◌+◌, ◌*◌, ◌≤◌, ◌<◌, get_or, take, drop}
use Rattle.theory.specs.Letters.{usual}
use Rattle.theory.specs.Graphs.{new_points}
use Rattle.engine.specs.Engine.{State, joined, grown, chained}
use Rattle.engine.specs.Stages.{Chainable}
use Rattle.rooms.specs.declared.Room.{Room}
use Rattle.rooms.specs.WorkCells.{joined_work, grown_work, chained_work}
use Rattle.rooms.specs.Rooms.{state_in, with_made, Fit, Left}

abbrev pub word_in : Room → List ℕ → List ℕ
word_in r work = drop (2 * r.rows) work

-- the letters first .. end - 1
abbrev pub part : List ℕ → ℕ → ℕ → List ℕ
part w first end = drop first (take end w)

pub record Growing (r : Room) (table work : List ℕ) (count at i : ℕ) : Type 0 where
  pub fit : Fit r [] table work count
  pub room : r.made < r.rows
  pub from : at < r.made
  pub place : i < r.rows
  pub letter : get_or (word_in r work) i 0 < 2 * r.n

abbrev pub GrownIn : Room → List ℕ → List ℕ → ℕ → ℕ → ℕ → List ℕ → List ℕ → ℕ → Type 0
GrownIn r table work count at i table' work' k =
    Left (with_made r (r.made + 1)) table work (joined (grown (state_in r table work count)) at (get_or (word_in r work) i 0) r.made)
    (joined_work r.rows (grown (state_in r table work count)) (grown_work (state_in r table work count) work) at (get_or (word_in r work) i 0) r.made)
    table' work' k

pub record ChainFits (r : Room) (table work : List ℕ) (count a b first end : ℕ) : Type 0 where
  pub fit : Fit r [] table work count
  pub order : first ≤ end
  pub place : end ≤ r.rows
  pub room : r.made + new_points (part (word_in r work) first end) ≤ r.rows
  pub chainable
      : Chainable (λ w. Unit {0}) (λ v. []) (usual r.n) (state_in r table work count) a (part (word_in r work) first end) b

abbrev pub chained_by : Room → List ℕ → List ℕ → ℕ → ℕ → ℕ → ℕ → ℕ → State
chained_by r table work count a b first end = chained (state_in r table work count) a (part (word_in r work) first end) b

abbrev pub chained_cells : Room → List ℕ → List ℕ → ℕ → ℕ → ℕ → ℕ → ℕ → List ℕ
chained_cells r table work count a b first end =
    chained_work r.rows (state_in r table work count) work a (part (word_in r work) first end) b

abbrev pub ClosedIn : Room → List ℕ → List ℕ → ℕ → ℕ → ℕ → ℕ → ℕ → List ℕ → List ℕ → ℕ → Type 0
ClosedIn r table work count a b first end =
    Left r table work (chained_by r table work count a b first end) (chained_cells r table work count a b first end)

pub record Chained (r : Room) (table work : List ℕ) (count a b first end made pending : ℕ) (table' work' : List ℕ) : Type 0 where
  pub made_is : made ≡ (chained_by r table work count a b first end).made
  pub left
      : Left (with_made r made) table work (chained_by r table work count a b first end) (chained_cells r table work count a b first end) table' work' pending
