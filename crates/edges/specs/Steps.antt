-- What the steps of telling and numbering edges say, cited by this crate's inner functions.
--   place_back c N w x z == the place of the cell that leads back to x where letter z leads from it; N × w, behind all places, where z leads nowhere
--   place_of N w spot    == the place of a spot in a table of N rows of w cells; N × w where there is none
--   step_place n N t x   == the place of the last step of the path of x; N × w for the base, whose path is empty
--   tally_at c N ys v y  == the tally of the cells before letter y of row v
--   run_of N k           == how many rows k marks leave from one to the next
--   left, found         == the work cells once mark j's tally stands there, and the tally that mark j's cells hold: none before mark 1
-- Assumes nothing.
use Rattle.std.specs.Prelude.{cond, List, ◌++◌, ℕ, zero, suc, ◌+◌, ◌*◌, ◌/◌, eqb, length, get_or, set, take}
use Rattle.std.proofs.Math.Option.{Option, none, some}
use Rattle.theory.specs.Words.{inv}
use Rattle.theory.specs.Letters.{usual}
use Rattle.theory.specs.Tables.{absent, Cells, cell}
use Rattle.theory.specs.Canonical.{earlier, greatest_met}
use Rattle.theory.specs.Basis.{Spot, spots_of, scan, first_met}
use Rattle.edges.specs.declared.Tally.{Tally}
use Rattle.edges.specs.Edges.{outside_in}

abbrev pub place_back : Cells → ℕ → ℕ → ℕ → ℕ → ℕ
place_back c N w x z = cond (eqb (c x z) absent) (N * w) (c x z * w + inv z)

abbrev pub place_of : ℕ → ℕ → Option Spot → ℕ
place_of N w none = N * w
place_of N w (some s) = s.point * w + s.letter

unfoldable pub step_place : ℕ → ℕ → List ℕ → ℕ → ℕ
step_place n N t x = cond (eqb x 0) (N * (2 * n)) (place_of N (2 * n) (first_met (cell n N t) N (usual n) x))

unfoldable pub tally_at : Cells → ℕ → List ℕ → ℕ → ℕ → Tally
tally_at c N ys v y =
    record {
      met = greatest_met (earlier c ys v y);
      edges = length (outside_in c N ys (scan v ys ++ take y (spots_of ys v)));
    }

abbrev pub run_of : ℕ → ℕ → ℕ
run_of N k = N / (k + 1) + 1

abbrev pub left : List ℕ → ℕ → Tally → List ℕ
left work j tally = set (set work (2 * j) tally.met) (2 * j + 1) tally.edges

unfoldable pub found : List ℕ → ℕ → Tally
found work zero = record { met = zero; edges = zero }
found work (suc j) = record { met = get_or work (2 * j) 0; edges = get_or work (2 * j + 1) 0 }
