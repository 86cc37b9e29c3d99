-- The edges that no path uses, told and numbered without a note a point (document 01, 'Basis and expression'), cited by this crate's functions.
--   is_outside c N ys v y == no path uses the edge of letter y at v, either way
--   Tally               == the greatest point met, and how many edges outside the paths there are
--   tally_before c N ys v == the tally of the rows before row v
--   mark_row N k j       == the row of mark j of k: k marks part N rows into runs of one length
--   marks_of c N ys k m  == the first m of k marks: the tally before each mark's row, two cells a mark
-- Assumes nothing.
use Rattle.std.specs.Prelude.{Bool, not, List, [], ◌∷◌, ◌++◌, ℕ, zero, suc, ◌+◌, ◌*◌, ◌/◌, min, length}
use Rattle.theory.specs.Tables.{Cells}
use Rattle.theory.specs.Canonical.{greatest_met, rows_before}
use Rattle.theory.specs.Basis.{Spot, scan, is_edge, is_path_edge, those}
use Rattle.edges.specs.declared.Tally.{Tally}

unfoldable pub is_outside : Cells → ℕ → List ℕ → ℕ → ℕ → Bool
is_outside c N ys v y = not (is_path_edge c N ys v y)

-- the edges outside the paths among some spots
unfoldable pub outside_in : Cells → ℕ → List ℕ → List Spot → List Spot
outside_in c N ys ss = those (λ s. is_outside c N ys s.point s.letter) (those (is_edge c) ss)

unfoldable pub tally_before : Cells → ℕ → List ℕ → ℕ → Tally
tally_before c N ys v =
    record { met = greatest_met (rows_before c ys v); edges = length (outside_in c N ys (scan v ys)) }

abbrev pub mark_row : ℕ → ℕ → ℕ → ℕ
mark_row N k j = min (j * (N / (k + 1) + 1)) N

unfoldable pub marks_of : Cells → ℕ → List ℕ → ℕ → ℕ → List ℕ
marks_of c N ys k zero = []
marks_of c N ys k (suc m) =
    marks_of c N ys k m
    ++ ((tally_before c N ys (mark_row N k (suc m))).met ∷ (tally_before c N ys (mark_row N k (suc m))).edges ∷ [])
