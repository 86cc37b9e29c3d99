-- The lent cells that printing leaves, cited by this program's contracts. What is printed no contract says.
--   BasisRun, NormalRun      <-> the cells are those of an outcome that `basis`, or `normal`, promises
--   after_query, after_queries  == the work cells and the numbers after a query, and after queries one by one
--   TableAsked               <-> the buffers after normality, the basis and the queries of a table, in this order
--   ListDone                 <-> a list is folded, and then the table that it makes is asked; after a refused list nothing more is done
--   InputDone                <-> an input is parsed, and then its list and queries are done; bad or refused input leaves the other buffers
-- Assumes nothing.
use Rattle.std.specs.Prelude.{◌≡◌, Bool, List, [], ◌∷◌, ℕ, ℤ, length}
use Rattle.std.specs.declared.result.Result.{Result}
use Rattle.std.specs.declared.result.Result.TheVariants.{Ok, Err}
use Rattle.refusals.specs.declared.Refusal.{Refusal}
use Rattle.lists.specs.declared.TextSize.{TextSize}
use Rattle.bases.specs.Bases.{BasisOutcome}
use Rattle.expressions.specs.Expressions.{express_refusal, work_for, out_for}
use Rattle.folds.specs.declared.FoldFigures.{FoldFigures}
use Rattle.folds.specs.Folds.{FoldOutcome}
use Rattle.inputs.specs.Inputs.{later_lines, list_of, queries_of}
use Rattle.inputs.specs.declared.Accepted.{Accepted}
use Rattle.inputs.specs.declared.InputError.{InputError}
use Rattle.inputs.specs.Parsed.{ParsedInto}
use Rattle.normals.specs.Normals.{NormalOutcome}

-- ── A table ──

abbrev pub BasisRun : ℕ → ℕ → List ℕ → List ℕ → List ℕ → List ℕ → List ℕ → Type 0
BasisRun n N t work basis work' basis' = (r : Result TextSize Refusal) × BasisOutcome n N t work basis r work' basis'

abbrev pub NormalRun : ℕ → ℕ → List ℕ → List ℕ → List ℕ → Type 0
NormalRun n N t work work' = (r : Result Bool Refusal) × NormalOutcome n N t work r work'

-- the cells that a query is lent
pub record QueryCells : Type 0 where
  pub work : List ℕ
  pub numbers : List ℤ

abbrev pub lent : List ℕ → List ℤ → QueryCells
lent work numbers = record { work = work; numbers = numbers }

unfoldable pub after_query : ℕ → ℕ → List ℕ → List ℕ → QueryCells → QueryCells
after_query n N t query c =
    record {
      work = work_for query c.work (express_refusal n N t query (length c.work) (length c.numbers));
      numbers = out_for n N t query c.numbers (express_refusal n N t query (length c.work) (length c.numbers));
    }

unfoldable pub after_queries : ℕ → ℕ → List ℕ → List (List ℕ) → QueryCells → QueryCells
after_queries n N t [] c = c
after_queries n N t (query ∷ queries) c = after_queries n N t queries (after_query n N t query c)

-- ── A list ──

-- the buffers beside that of the input
pub record Buffers : Type 0 where
  pub basis : List ℕ
  pub table : List ℕ
  pub work : List ℕ
  pub numbers : List ℤ

abbrev pub buffers_of : List ℕ → List ℕ → List ℕ → List ℤ → Buffers
buffers_of basis table work numbers = record { basis = basis; table = table; work = work; numbers = numbers }

-- the table of N points stands in b, and stays
pub record TableAsked (n N : ℕ) (queries : List (List ℕ)) (b b' : Buffers) : Type 0 where
  pub normal_work : List ℕ
  pub normal : NormalRun n N b.table b.work normal_work
  pub basis_work : List ℕ
  pub basis : BasisRun n N b.table normal_work b.basis basis_work b'.basis
  pub table : b'.table ≡ b.table
  pub queried : lent b'.work b'.numbers ≡ after_queries n N b.table queries (lent basis_work b.numbers)

-- after folding, by what it says
abbrev pub AfterFold : Result FoldFigures Refusal → ℕ → List (List ℕ) → Buffers → Buffers → Type 0
AfterFold (Err r) n queries b b' = b' ≡ b
AfterFold (Ok f) n queries b b' = TableAsked n f.points queries b b'

pub record ListDone (n : ℕ) (list : List ℕ) (queries : List (List ℕ)) (b b' : Buffers) : Type 0 where
  pub folded : Result FoldFigures Refusal
  pub fold_table : List ℕ
  pub fold_work : List ℕ
  pub fold : FoldOutcome n list b.table b.work folded fold_table fold_work
  pub after : AfterFold folded n queries (buffers_of b.basis fold_table fold_work b.numbers) b'

-- ── An input ──

-- after parsing, by what it says: n with the list and the queries of the input, or neither
abbrev pub AfterParse : Result Accepted InputError → List ℕ → Buffers → Buffers → Type 0
AfterParse (Err e) input b b' = b' ≡ b
AfterParse (Ok a) input b b' =
    ListDone a.n (list_of (later_lines input)) (queries_of (later_lines input)) b b'

pub record InputDone (input : List ℕ) (b : Buffers) (input' : List ℕ) (b' : Buffers) : Type 0 where
  pub parsed : Result Accepted InputError
  pub parse : ParsedInto input parsed input'
  pub after : AfterParse parsed input b b'
