-- What is said of a query on the subgroup of a list, and what is left (document 01, 'Numbers of refusal'), cited by `ask`.
--   Says ws q r  <-> r is true and q is a member of the subgroup of ws, or r is false and it is none
--   Answered     <-> the outcome where nothing is refused: the table as after folding, the answer, and the needed work cells 0
--   AskOutcome   <-> the first refusal, with both buffers untouched; else Answered
--   Askable      <-> nothing is refused
-- The word of a query is `query_word` (members). Assumes nothing.
use Rattle.std.specs.Prelude.{◌≡◌, ◌⊎◌, Bool, true, false, List, ℕ, ◌*◌, ◌≤◌, length}
use Rattle.std.specs.declared.result.Result.{Result}
use Rattle.std.specs.declared.result.Result.TheVariants.{Ok, Err}
use Rattle.std.proofs.Math.Option.{Option, none, some}
use Rattle.theory.specs.Words.{Member}
use Rattle.theory.specs.Letters.{words_of}
use Rattle.theory.specs.Refusals.{Refusal as FirstCause}
use Rattle.theory.specs.Subgroups.{TableOf}
use Rattle.cells.specs.Filled.{filled}
use Rattle.refusals.specs.declared.Refusal.{Refusal}
use Rattle.refusals.specs.Given.{given}
use Rattle.members.specs.Members.{query_word}
use Rattle.folds.specs.Causes.{rows_of, work_of}
use Rattle.folds.specs.Folds.{Cleared}
use Rattle.asks.specs.Causes.{asked_work, texts_refusal, ask_refusal}

abbrev pub Says : List (List ℕ) → List ℕ → Result Bool Refusal → Type 0
Says ws q r = ((r ≡ Ok true) × Member ws q) ⊎ ((r ≡ Ok false) × (Member ws q → ⊥))

pub record Answered (n : ℕ) (list query table work : List ℕ) (r : Result Bool Refusal) (table' work' : List ℕ) : Type 0 where
  pub points : ℕ
  -- the first rows are canonical, and accept exactly the members
  pub subgroup : TableOf n points table' (words_of list)
  -- the table is what folding leaves, with its own work cells 0
  pub cleared : Cleared n (rows_of list) points table work table' (filled (work_of list) 0 work)
  pub says : Says (words_of list) (query_word query) r
  pub zeros : work' ≡ filled (asked_work list query) 0 work

abbrev pub OutcomeFor : ℕ → List ℕ → List ℕ → List ℕ → List ℕ → Option FirstCause → Result Bool Refusal → List ℕ → List ℕ → Type 0
OutcomeFor n list query table work none r table' work' = Answered n list query table work r table' work'
OutcomeFor n list query table work (some c) r table' work' = (r ≡ Err (given c)) × (table' ≡ table) × (work' ≡ work)

abbrev pub AskOutcome : ℕ → List ℕ → List ℕ → List ℕ → List ℕ → Result Bool Refusal → List ℕ → List ℕ → Type 0
AskOutcome n list query table work r table' work' =
    OutcomeFor n list query table work (ask_refusal n list query (length table) (length work)) r table' work'

pub record Askable (n : ℕ) (list query table work : List ℕ) : Type 0 where
  pub fine : texts_refusal n list query ≡ none
  pub rows : rows_of list * (2 * n) ≤ length table
  pub room : asked_work list query ≤ length work
