-- What expressing a query says and leaves (document 01: refusals 1, 2, 3/4, 6, 7, 8, 9, or inside with its numbers, or outside), cited by `express`.
--   numbers_of n N t query == the signed numbers of the query's word in the basis of the table (theory, `expression_of`)
--   ExpressCause          == the causes of `express`, by number; express_refusal == the first of them, computed
--   expressed_of           == how many numbers are written of a member; none of another query
--   work_for, out_for       == the work cells then: the needed ones 0, but untouched by refusals 1 to 8; the output: the numbers of a member, then as it was
--   ExpressOutcome       <-> the answer and both buffers are those
-- 9 never comes from a query that is not a member. `room` is the number of work cells, `space` that of output cells. Assumes nothing.
use Rattle.std.specs.Prelude.{◌≡◌, Bool, cond, ◌&&◌, List, ◌++◌, ℕ, eqb, ltb, ℤ, length, drop}
use Rattle.std.proofs.Math.Option.{Option, none, some}
use Rattle.std.specs.declared.option.Option.{Option as Maybe}
use Rattle.std.specs.declared.option.Option.TheVariants.{None, Some}
use Rattle.std.specs.declared.result.Result.{Result}
use Rattle.theory.specs.Letters.{usual}
use Rattle.theory.specs.Refusals.{Refusal as FirstCause, CauseShort, Only, Join, or_else, refused_if}
use Rattle.theory.specs.TableRefusals.{MemberCause, member_refusal}
use Rattle.theory.specs.Tables.{cell, Accepts, is_accepted}
use Rattle.theory.specs.Basis.{expression_of}
use Rattle.cells.specs.Filled.{filled}
use Rattle.members.specs.Members.{query_word}
use Rattle.refusals.specs.declared.Refusal.{Refusal}
use Rattle.refusals.specs.Given.{unless}

-- the table accepts the query's word
abbrev pub is_inside : ℕ → ℕ → List ℕ → List ℕ → Bool
is_inside n N t query = is_accepted (cell n N t) (query_word query)

unfoldable pub numbers_of : ℕ → ℕ → List ℕ → List ℕ → List ℤ
numbers_of n N t query = expression_of (cell n N t) N (usual n) (query_word query)

-- a member's numbers do not fit the output
abbrev pub CauseNarrow : ℕ → ℕ → List ℕ → List ℕ → ℕ → ℕ → Type 0
CauseNarrow n N t query space p = Accepts (cell n N t) (query_word query) × CauseShort (length (numbers_of n N t query)) space p

abbrev pub ExpressCause : ℕ → ℕ → List ℕ → List ℕ → ℕ → ℕ → ℕ → ℕ → Type 0
ExpressCause n N t query room space = Join (MemberCause n N t query room) (Only 9 (CauseNarrow n N t query space))

unfoldable pub express_refusal : ℕ → ℕ → List ℕ → List ℕ → ℕ → ℕ → Option FirstCause
express_refusal n N t query room space =
    or_else (member_refusal n N t query room)
    (refused_if (is_inside n N t query && ltb space (length (numbers_of n N t query))) 9 (length (numbers_of n N t query)))

abbrev pub expressed_of : ℕ → ℕ → List ℕ → List ℕ → Maybe ℕ
expressed_of n N t query = cond (is_inside n N t query) (Some (length (numbers_of n N t query))) None

-- 9 leaves the needed cells 0, as an answer does
abbrev pub work_for : List ℕ → List ℕ → Option FirstCause → List ℕ
work_for query work none = filled (length query) 0 work
work_for query work (some r) = cond (eqb r.number 9) (filled (length query) 0 work) work

abbrev pub out_for : ℕ → ℕ → List ℕ → List ℕ → List ℤ → Option FirstCause → List ℤ
out_for n N t query out none =
    cond (is_inside n N t query) (numbers_of n N t query ++ drop (length (numbers_of n N t query)) out) out
out_for n N t query out (some r) = out

pub record ExpressOutcome (n N : ℕ) (t query work : List ℕ) (out : List ℤ) (r : Result (Maybe ℕ) Refusal) (work' : List ℕ) (out' : List ℤ) : Type 0 where
  pub answer : r ≡ unless (express_refusal n N t query (length work) (length out)) (expressed_of n N t query)
  pub cells : work' ≡ work_for query work (express_refusal n N t query (length work) (length out))
  pub numbers : out' ≡ out_for n N t query out (express_refusal n N t query (length work) (length out))
