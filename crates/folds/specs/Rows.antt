-- What the parts of `fold` ask and leave, cited by their contracts.
--   Prepared r list table work  <-> the lent cells hold the base alone, and there is room for the list
--   StartOf list g              <-> g is the size of the list's start graph
--   folded_cells R ys s w us     == the work cells once each word of us is taken in (takes, `taken_cells`), beside `folded` (engine)
--   WordsIn r list ..           <-> every word of the list has been taken in
--   Foldable n list table work  <-> nothing is refused; Built <-> the table and the work cells afterwards
-- Assumes nothing.
use Rattle.std.specs.Prelude.{◌≡◌, true, List, [], ◌∷◌, ℕ, ◌*◌, ◌≤◌, length, drop}
use Rattle.std.proofs.Math.Option.{none}
use Rattle.theory.specs.Words.{reduced}
use Rattle.theory.specs.Letters.{words_of, usual}
use Rattle.theory.specs.Refusals.{text_refusal}
use Rattle.theory.specs.Subgroups.{TableOf}
use Rattle.theory.specs.Graphs.{start_graph}
use Rattle.engine.specs.Engine.{State, taken_in, drained, start, folded}
use Rattle.rooms.specs.declared.Room.{Room}
use Rattle.rooms.specs.Rooms.{state_in, with_made, Lent}
use Rattle.takes.specs.Takes.{taken_cells}
use Rattle.lists.specs.declared.StartSize.{StartSize}
use Rattle.folds.specs.declared.BuildSize.{BuildSize}
use Rattle.folds.specs.Causes.{rows_of, work_of}
use Rattle.folds.specs.Folds.{Cleared}

pub record Prepared (r : Room) (list table work : List ℕ) : Type 0 where
  pub lent : Lent r table work
  pub fresh : state_in r table work 0 ≡ start
  pub fine : text_refusal r.n true list ≡ none
  pub rows : r.rows ≡ rows_of list

-- the state once every word is taken in
abbrev pub all_in : Room → List ℕ → State
all_in r list = folded (usual r.n) start (words_of list)

unfoldable pub folded_cells : ℕ → List ℕ → State → List ℕ → List (List ℕ) → List ℕ
folded_cells R ys s w [] = w
folded_cells R ys s w (u ∷ us) = folded_cells R ys (drained ys (taken_in s (reduced u))) (taken_cells R ys s w u) us

-- the size of the start graph
pub record StartOf (list : List ℕ) (g : StartSize) : Type 0 where
  pub points : g.points ≡ length (start_graph (words_of list)).points
  pub edges : g.edges ≡ length (start_graph (words_of list)).edges

pub record WordsIn (r : Room) (list table work : List ℕ) (g : StartSize) (table' work' : List ℕ) : Type 0 where
  pub sizes : StartOf list g
  pub state : state_in (with_made r (all_in r list).made) table' work' 0 ≡ all_in r list
  pub cells : work' ≡ folded_cells r.rows (usual r.n) start work (words_of list)
  pub table_same : length table' ≡ length table
  pub table_rest : drop (r.rows * (2 * r.n)) table' ≡ drop (r.rows * (2 * r.n)) table
  pub work_same : length work' ≡ length work
  pub work_rest : drop (3 * r.rows) work' ≡ drop (3 * r.rows) work

pub record Foldable (n : ℕ) (list table work : List ℕ) : Type 0 where
  pub fine : text_refusal n true list ≡ none
  pub rows : rows_of list * (2 * n) ≤ length table
  pub room : work_of list ≤ length work

pub record Built (n : ℕ) (list table work : List ℕ) (b : BuildSize) (table' work' : List ℕ) : Type 0 where
  pub subgroup : TableOf n b.points table' (words_of list)
  pub cleared : Cleared n (rows_of list) b.points table work table' work'
  pub sizes : StartOf list b.start
