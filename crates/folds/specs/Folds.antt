-- What folding a list says and leaves (document 01, 'Folding', 'The table', 'Numbers of refusal'), cited by `fold`.
--   Cleared n R N ..  <-> over a room of R rows: N rows are used, the others hold the absent mark, 8 × R work cells are 0, and every
--                         cell behind is as it was
--   FoldsAs ws m k    <-> every complete folding of the start graph has m merging and k closing folds
--   Done              <-> the outcome of a list that is not refused: the table of its subgroup, what is left, and the figures
--   FoldOutcome       <-> the first refusal, with both buffers untouched; else Done
-- The room of a fold is L + 1 rows. Assumes nothing.
use Rattle.std.specs.Prelude.{◌≡◌, List, ℕ, ◌+◌, ◌*◌, ◌≤◌, ◌<◌, length, get_or, drop}
use Rattle.std.proofs.Math.Option.{Option, none, some}
use Rattle.std.specs.declared.result.Result.{Result}
use Rattle.std.specs.declared.result.Result.TheVariants.{Ok, Err}
use Rattle.theory.specs.Letters.{words_of}
use Rattle.theory.specs.Tables.{absent}
use Rattle.theory.specs.Graphs.{Graph, start_graph}
use Rattle.theory.specs.Folds.{CompleteFolding}
use Rattle.theory.specs.Subgroups.{TableOf}
use Rattle.theory.specs.Refusals.{Refusal as FirstCause}
use Rattle.cells.specs.Filled.{filled}
use Rattle.refusals.specs.declared.Refusal.{Refusal}
use Rattle.refusals.specs.Given.{given}
use Rattle.tables.specs.Checks.{figures_as}
use Rattle.folds.specs.declared.FoldFigures.{FoldFigures}
use Rattle.folds.specs.Causes.{rows_of, fold_refusal}

pub record Cleared (n R N : ℕ) (table work table' work' : List ℕ) : Type 0 where
  pub used : N ≤ R
  pub same : length table' ≡ length table
  pub unused : (v y : ℕ) → N ≤ v → v < R → y < 2 * n → get_or table' (v * (2 * n) + y) 0 ≡ absent
  pub rest : drop (R * (2 * n)) table' ≡ drop (R * (2 * n)) table
  pub zeros : work' ≡ filled (8 * R) 0 work

abbrev pub FoldsAs : List (List ℕ) → ℕ → ℕ → Type 0
FoldsAs ws m k = (h : Graph) (i j : ℕ) → CompleteFolding (start_graph ws) h i j → (m ≡ i) × (k ≡ j)

pub record Done (n : ℕ) (list table work : List ℕ) (f : FoldFigures) (table' work' : List ℕ) : Type 0 where
  -- the first rows are canonical, and accept exactly the members
  pub subgroup : TableOf n f.points table' (words_of list)
  pub cleared : Cleared n (rows_of list) f.points table work table' work'
  -- edges, rank and index are the table's
  pub counts : f.counts ≡ figures_as n f.points table'
  -- the size of the start graph
  pub start_points : f.start.points ≡ length (start_graph (words_of list)).points
  pub start_edges : f.start.edges ≡ length (start_graph (words_of list)).edges
  -- the folds of each kind
  pub folds : FoldsAs (words_of list) f.merging f.closing

abbrev pub OutcomeFor : ℕ → List ℕ → List ℕ → List ℕ → Option FirstCause → Result FoldFigures Refusal → List ℕ → List ℕ → Type 0
OutcomeFor n list table work none r table' work' = (f : FoldFigures) × (r ≡ Ok f) × Done n list table work f table' work'
OutcomeFor n list table work (some c) r table' work' = (r ≡ Err (given c)) × (table' ≡ table) × (work' ≡ work)

abbrev pub FoldOutcome : ℕ → List ℕ → List ℕ → List ℕ → Result FoldFigures Refusal → List ℕ → List ℕ → Type 0
FoldOutcome n list table work r table' work' =
    OutcomeFor n list table work (fold_refusal n list (length table) (length work)) r table' work'
