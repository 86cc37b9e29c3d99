-- Crossed edges as places in the table, before they have their numbers, cited by the parts of `express`.
--   signed_by back k      == −k for an edge read backwards, else k
--   place_of n v y x      == the signed place, from 1, of the lower-case cell of the edge that letter y reads from v to x
--   placed n N t v y     == that place for an edge that no path uses, else nothing
--   places_from, places_of == the places of a word read from v, from the base
--   numbered n N t z     == the signed number, in the basis, of the edge at a signed place
--   AtEdge, AllAtEdge   <-> a place, every place of some, is that of an edge outside the paths
-- A place holds in 32 bits what a number will replace: so the table is swept for marks once, not once a letter. Assumes nothing.
use Rattle.std.specs.Prelude.{◌≡◌, Bool, true, false, cond, List, [], ◌∷◌, ◌++◌, ℕ, suc, ◌+◌, ◌-◌, ◌*◌, ◌/◌, ◌%◌, ◌≤◌, ◌<◌, ℤ, pos, negsuc, neg_ℤ, nat_abs}
use Rattle.theory.specs.Words.{inv}
use Rattle.theory.specs.Letters.{usual}
use Rattle.theory.specs.Tables.{cell}
use Rattle.theory.specs.Graphs.{is_lower}
use Rattle.theory.specs.Basis.{is_edge, outside_edges, number_in}
use Rattle.edges.specs.Edges.{is_outside}

abbrev pub signed_by : Bool → ℕ → ℤ
signed_by true k = neg_ℤ (pos k)
signed_by false k = pos k

unfoldable pub place_of : ℕ → ℕ → ℕ → ℕ → ℤ
place_of n v y x = cond (is_lower y) (pos (suc (v * (2 * n) + y))) (negsuc (x * (2 * n) + inv y))

unfoldable pub placed : ℕ → ℕ → List ℕ → ℕ → ℕ → List ℤ
placed n N t v y =
    cond (is_outside (cell n N t) N (usual n) v y) (place_of n v y (cell n N t v y) ∷ []) []

unfoldable pub places_from : ℕ → ℕ → List ℕ → ℕ → List ℕ → List ℤ
places_from n N t v [] = []
places_from n N t v (y ∷ w) = placed n N t v y ++ places_from n N t (cell n N t v y) w

abbrev pub places_of : ℕ → ℕ → List ℕ → List ℕ → List ℤ
places_of n N t w = places_from n N t 0 w

-- the number of the edge whose cell stands at a place, counted from 0
unfoldable pub number_at : ℕ → ℕ → List ℕ → ℕ → ℕ
number_at n N t p = number_in (outside_edges (cell n N t) N (usual n)) 1 (p / (2 * n)) (p % (2 * n))

abbrev pub numbered : ℕ → ℕ → List ℕ → ℤ → ℤ
numbered n N t (pos k) = pos (number_at n N t (k - 1))
numbered n N t (negsuc k) = neg_ℤ (pos (number_at n N t k))

pub record AtEdge (n N : ℕ) (t : List ℕ) (z : ℤ) : Type 0 where
  pub some_place : 1 ≤ nat_abs z
  pub small : nat_abs z ≤ 54526004
  pub point : (nat_abs z - 1) / (2 * n) < N
  pub edge : is_edge (cell n N t) (record { point = (nat_abs z - 1) / (2 * n); letter = (nat_abs z - 1) % (2 * n) }) ≡ true
  pub outside : is_outside (cell n N t) N (usual n) ((nat_abs z - 1) / (2 * n)) ((nat_abs z - 1) % (2 * n)) ≡ true

abbrev pub AllAtEdge : ℕ → ℕ → List ℕ → List ℤ → Type 0
AllAtEdge n N t [] = Unit {0}
AllAtEdge n N t (z ∷ zs) = AtEdge n N t z × AllAtEdge n N t zs
