-- What checking a lent table says (document 01: refusals 1, 6, 8, or edges, rank and index), cited by `check`.
--   checked_as n N t      == the answer: the first refusal, or the counts of the table
--   CheckOutcome n N t r <-> r is that answer. The table is lent to be read and stays as it is
-- Assumes nothing.
use Rattle.std.specs.Prelude.{◌≡◌, List, ℕ, length}
use Rattle.std.specs.declared.option.Option.{Option}
use Rattle.std.specs.declared.option.Option.TheVariants.{None, Some}
use Rattle.std.specs.declared.result.Result.{Result}
use Rattle.theory.specs.Letters.{usual}
use Rattle.theory.specs.TableRefusals.{check_refusal}
use Rattle.theory.specs.Tables.{cell}
use Rattle.theory.specs.Basis.{Index as IndexOf, finite, infinite, edges_of, rank_of, index_of}
use Rattle.refusals.specs.declared.Refusal.{Refusal}
use Rattle.refusals.specs.Given.{unless}
use Rattle.tables.specs.declared.Figures.{Figures}

-- the index as code holds it: none is infinite
abbrev pub index_as : IndexOf → Option ℕ
index_as (finite k) = Some k
index_as infinite = None

unfoldable pub figures_as : ℕ → ℕ → List ℕ → Figures
figures_as n N t =
    record {
      edges = length (edges_of (cell n N t) N (usual n));
      rank = rank_of (cell n N t) N (usual n);
      index = index_as (index_of (cell n N t) N (usual n));
    }

unfoldable pub checked_as : ℕ → ℕ → List ℕ → Result Figures Refusal
checked_as n N t = unless (check_refusal n N t) (figures_as n N t)

abbrev pub CheckOutcome : ℕ → ℕ → List ℕ → Result Figures Refusal → Type 0
CheckOutcome n N t r = r ≡ checked_as n N t
