-- What is said of a query on a lent table (document 01: refusals 1, 2, 3/4, 6, 7, 8, or inside, outside), cited by `member`.
--   answer_as n N t query room == the first refusal; else true exactly if the table accepts the query's word
--   MemberOutcome             <-> r is that answer, and the work cells are as they were if it is a refusal, else the needed ones are 0
-- The needed cells are as many as the query has bytes. Assumes nothing.
use Rattle.std.specs.Prelude.{◌≡◌, Bool, List, map, ℕ, length}
use Rattle.std.specs.declared.result.Result.{Result}
use Rattle.std.proofs.Math.Option.{Option, none, some}
use Rattle.theory.specs.Letters.{letter_of}
use Rattle.theory.specs.Refusals.{Refusal as FirstCause}
use Rattle.theory.specs.TableRefusals.{member_refusal}
use Rattle.theory.specs.Tables.{cell, is_accepted}
use Rattle.cells.specs.Filled.{filled}
use Rattle.refusals.specs.declared.Refusal.{Refusal}
use Rattle.refusals.specs.Given.{unless}

-- the word of a query: its letters
abbrev pub query_word : List ℕ → List ℕ
query_word query = map letter_of query

unfoldable pub answer_as : ℕ → ℕ → List ℕ → List ℕ → ℕ → Result Bool Refusal
answer_as n N t query room = unless (member_refusal n N t query room) (is_accepted (cell n N t) (query_word query))

abbrev pub cells_for : List ℕ → List ℕ → Option FirstCause → List ℕ
cells_for query work none = filled (length query) 0 work
cells_for query work (some r) = work

unfoldable pub cells_after : ℕ → ℕ → List ℕ → List ℕ → List ℕ → List ℕ
cells_after n N t query work = cells_for query work (member_refusal n N t query (length work))

pub record MemberOutcome (n N : ℕ) (t query work : List ℕ) (r : Result Bool Refusal) (after : List ℕ) : Type 0 where
  pub answer : r ≡ answer_as n N t query (length work)
  pub cells : after ≡ cells_after n N t query work
