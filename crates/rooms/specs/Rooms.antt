-- Lent cells as a state of the engine, and what operations on them ask and leave. Cited by the crates above.
--   state_in r table work count == the state (engine, `Engine`) that lent cells hold, `count` points pending
--   with_made r m          == the room with m points made
--   Lent r table work     <-> room and cells are as large as they have to be, and forward falls
--   Usable r table work count <-> so, and cells name points made, and one more point may become pending
--   Plain r hand s        <-> s is a stage (engine, `Stages`), whatever the subgroup
--   Fit r hand table work count <-> lent cells hold such a state, and the pending list has room
--   Left r table work s w table' work' count <-> afterwards the cells hold s, the work cells are w, and behind the room and the
--                           pending points the cells are as they were
--   After r f g table work count table' work' k <-> so, where f makes s of the state before, and g makes w of the work cells
-- The first `rows` work cells are forward, the next `rows` pending. Assumes nothing.
use Rattle.std.specs.Prelude.{◌≡◌, List, [], ℕ, ◌*◌, ◌≤◌, ◌<◌, length, drop}
use Rattle.theory.specs.Letters.{usual}
use Rattle.theory.specs.Tables.{absent, Leads, cell}
use Rattle.engine.specs.Roots.{Falls}
use Rattle.engine.specs.Engine.{State, state_of}
use Rattle.engine.specs.Stages.{Stage, Roomy}
use Rattle.engine.specs.Work.{forward_of, pending_of}
use Rattle.rooms.specs.declared.Room.{Room}
use Rattle.rooms.specs.declared.Fold.{Fold}

abbrev pub state_in : Room → List ℕ → List ℕ → ℕ → State
state_in r table work count =
    state_of (cell r.n r.rows table) (forward_of work r.made) (pending_of (drop r.rows work) count) r.made

abbrev pub with_made : Room → ℕ → Room
with_made r m = record { n = r.n; rows = r.rows; made = m }

pub record Lent (r : Room) (table work : List ℕ) : Type 0 where
  pub some : 1 ≤ r.n
  pub most : r.n ≤ 26
  pub inside : r.made ≤ r.rows
  pub fits : r.rows ≤ absent
  pub lent : r.rows * (2 * r.n) ≤ length table
  pub room : 3 * r.rows ≤ length work
  pub falls : Falls (forward_of work r.made)

pub record Usable (r : Room) (table work : List ℕ) (count : ℕ) : Type 0 where
  pub lent : Lent r table work
  pub named : (v y x : ℕ) → Leads (cell r.n r.rows table) v y x → x < r.made
  pub spare : count < r.rows

-- labels that say nothing: every word is in the subgroup
abbrev pub Plain : Room → List ℕ → State → Type 0
Plain r hand s = Stage (λ w. Unit {0}) (λ v. []) (usual r.n) hand s

pub record Fit (r : Room) (hand table work : List ℕ) (count : ℕ) : Type 0 where
  pub lent : Lent r table work
  pub stage : Plain r hand (state_in r table work count)
  pub roomy : Roomy (state_in r table work count)

pub record Left (r : Room) (table work : List ℕ) (s : State) (w table' work' : List ℕ) (count : ℕ) : Type 0 where
  pub state : state_in r table' work' count ≡ s
  pub cells : work' ≡ w
  pub falls : Falls (forward_of work' r.made)
  pub table_same : length table' ≡ length table
  pub table_rest : drop (r.rows * (2 * r.n)) table' ≡ drop (r.rows * (2 * r.n)) table
  pub work_same : length work' ≡ length work
  pub work_rest : drop (2 * r.rows) work' ≡ drop (2 * r.rows) work

abbrev pub After : Room → (State → State) → (State → List ℕ → List ℕ) → List ℕ → List ℕ → ℕ → List ℕ → List ℕ → ℕ → Type 0
After r f g table work count table' work' k =
    Left r table work (f (state_in r table work count)) (g (state_in r table work count) work) table' work' k

-- the same lent slices, and the same room
pub record Kept (f g : Fold) : Type 0 where
  pub table : g.table.ghost_name ≡ f.table.ghost_name
  pub work : g.work.ghost_name ≡ f.work.ghost_name
  pub room : g.room ≡ f.room

abbrev pub UsableIn : Fold → Type 0
UsableIn f = Usable f.room f.table.now f.work.now f.pending

abbrev pub FitIn : List ℕ → Fold → Type 0
FitIn hand f = Fit f.room hand f.table.now f.work.now f.pending

abbrev pub AfterIn : (State → State) → (State → List ℕ → List ℕ) → Fold → Fold → Type 0
AfterIn s w f g = After f.room s w f.table.now f.work.now f.pending g.table.now g.work.now g.pending

-- the same lent slices, and the same room but for the points made
pub record Held (f g : Fold) : Type 0 where
  pub table : g.table.ghost_name ≡ f.table.ghost_name
  pub work : g.work.ghost_name ≡ f.work.ghost_name
  pub room : g.room ≡ with_made f.room g.room.made
