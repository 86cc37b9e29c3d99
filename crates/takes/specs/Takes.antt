-- One word taken in, on any table with nothing pending, cited by `circle` and `take_in`.
--   reduced_in R u work    == the work cells once the word u has been reduced behind the pending cells; R is the number of rows
--   circled_cells R s w u  == the work cells once it is also read and chained; taken_cells R ys s w u == and drained
--   Takeable   <-> nothing is pending, the word's letters are letters of n generators, and it has room for its letters and points
--   CircleOf   <-> the word is read and chained (engine, `taken_in`); TakenIn <-> and drained
-- Assumes nothing.
use Rattle.std.specs.Prelude.{◌≡◌, List, [], ◌++◌, ℕ, ◌+◌, ◌*◌, ◌≤◌, length, take, drop}
use Rattle.theory.specs.Words.{reduced}
use Rattle.theory.specs.Letters.{word_length, first_word, AllIn, usual}
use Rattle.theory.specs.Graphs.{new_points}
use Rattle.words.specs.Reduction.{reduced_cells}
use Rattle.engine.specs.Engine.{State, drained, taken_in}
use Rattle.rooms.specs.declared.Room.{Room}
use Rattle.rooms.specs.WorkCells.{drained_work, taken_work}
use Rattle.rooms.specs.Rooms.{state_in, with_made, Fit, Left}

unfoldable pub reduced_in : ℕ → List ℕ → List ℕ → List ℕ
reduced_in R u work = take (2 * R) work ++ reduced_cells u (drop (2 * R) work)

abbrev pub circled_cells : ℕ → State → List ℕ → List ℕ → List ℕ
circled_cells R s w u = taken_work R s (reduced_in R u w) (reduced u)

abbrev pub taken_cells : ℕ → List ℕ → State → List ℕ → List ℕ → List ℕ
taken_cells R ys s w u = drained_work R ys (taken_in s (reduced u)) (circled_cells R s w u)

pub record Takeable (r : Room) (part table work : List ℕ) : Type 0 where
  pub fit : Fit r [] table work 0
  pub letters : AllIn (usual r.n) (first_word part)
  pub place : word_length part ≤ r.rows
  pub room : r.made + new_points (reduced (first_word part)) ≤ r.rows

abbrev pub circled : Room → List ℕ → List ℕ → List ℕ → State
circled r part table work = taken_in (state_in r table work 0) (reduced (first_word part))

pub record CircleOf (r : Room) (part table work : List ℕ) (made pending left : ℕ) (table' work' : List ℕ) : Type 0 where
  pub made_is : made ≡ (circled r part table work).made
  pub letters : left ≡ length (reduced (first_word part))
  pub leaves
      : Left (with_made r made) table (reduced_in r.rows (first_word part) work) (circled r part table work)
      (circled_cells r.rows (state_in r table work 0) work (first_word part)) table' work' pending

pub record TakenIn (r : Room) (part table work : List ℕ) (made left : ℕ) (table' work' : List ℕ) : Type 0 where
  pub made_is : made ≡ (circled r part table work).made
  pub letters : left ≡ length (reduced (first_word part))
  pub leaves
      : Left (with_made r made) table (reduced_in r.rows (first_word part) work) (drained (usual r.n) (circled r part table work))
      (taken_cells r.rows (usual r.n) (state_in r table work 0) work (first_word part)) table' work' 0
