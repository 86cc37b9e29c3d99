-- What the steps of the canonical walk say, in the words of the rules (theory, `Canonical`).
--   is_thin n N t v         == fewer than two cells of row v are not absent
--   row_broken n N t v g    == row v, before which the greatest point met was g, breaks one of the last two rules
--   broken_at n N t v y g   == so does the cell of letter y at v, of all five; a row's rules stand at its first cell
--   visited_as seen x y     == what was seen, and then the cell x of letter y
--   index_for N full        == the index of N points where no cell is absent; none where some is
-- A point met is any up to the greatest, as points are met in order: so `row_broken` asks for the greatest alone. Assumes nothing.
use Rattle.std.specs.Prelude.{Bool, false, cond, ◌&&◌, ◌||◌, List, ℕ, ◌+◌, max, eqb, ltb}
use Rattle.std.specs.declared.option.Option.{Option}
use Rattle.std.specs.declared.option.Option.TheVariants.{None, Some}
use Rattle.theory.specs.Letters.{usual}
use Rattle.theory.specs.Graphs.{is_lower}
use Rattle.theory.specs.Tables.{absent, cell}
use Rattle.theory.specs.Canonical.{row_of, present, breaks_cell}
use Rattle.tables.specs.declared.Seen.{Seen}

abbrev pub is_thin : ℕ → ℕ → List ℕ → ℕ → Bool
is_thin n N t v = ltb (present (row_of (cell n N t) (usual n) v)) 2

abbrev pub row_broken : ℕ → ℕ → List ℕ → ℕ → ℕ → Bool
row_broken n N t v g = ltb 0 v && (ltb g v || is_thin n N t v)

abbrev pub broken_at : ℕ → ℕ → List ℕ → ℕ → ℕ → ℕ → Bool
broken_at n N t v y g = (eqb y 0 && row_broken n N t v g) || breaks_cell N (cell n N t) v y g

abbrev pub visited_as : Seen → ℕ → ℕ → Seen
visited_as seen x y =
    cond (eqb x absent) (record { met = seen.met; edges = seen.edges; full = false })
    (record { met = max seen.met x; edges = seen.edges + cond (is_lower y) 1 0; full = seen.full })

abbrev pub index_for : ℕ → Bool → Option ℕ
index_for N full = cond full (Some N) None
