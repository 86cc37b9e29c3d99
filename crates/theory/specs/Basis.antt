-- Paths, basis words, expression, rank, index and normal (document 01, 'The table', 'Basis and expression').
--   scan N ys             == all places of a table of N rows in order, as point and letter
--   first_met c N ys x      == the first place, in order, whose cell holds x
--   path_of c N ys x        == the path of the point from whose row x was first met, then that letter; the base's is empty
--   outside_edges c N ys    == the edges that no path uses, by source point and then by letter
--   basis_of c N ys         == for each of them: path of source, letter, inverse of path of target, reduced
--   expression_of c N ys q  == the signed numbers of the edges outside all paths that the reduced q crosses, in reading order
--   rank_of, index_of        == edges + 1 − N; N if no cell is absent, else infinite
--   is_normal c N ys        == every basis word, read from each point one letter away from the base, leads back to that point
-- The letters to scan are an argument: `usual n` for document 01. Assumes nothing.
use Rattle.std.specs.Prelude.{Bool, true, false, cond, not, ◌&&◌, ◌||◌, List, [], ◌∷◌, ◌++◌, map, ℕ, zero, suc, ◌+◌, ◌-◌, eqb, ℤ, pos, negsuc, length, get_or}
use Rattle.std.proofs.Math.Option.{Option, none, some}
use Rattle.theory.specs.Words.{inv, reduced, inverse_of}
use Rattle.theory.specs.Tables.{absent, Cells, end_of, is_at}
use Rattle.theory.specs.Canonical.{Place, first_place}
use Rattle.theory.specs.Graphs.{is_lower}

-- a cell: its point and its letter
pub record Spot : Type 0 where
  pub point : ℕ
  pub letter : ℕ

-- the cells of row v
unfoldable pub spots_of : List ℕ → ℕ → List Spot
spots_of ys v = map (λ y. record { point = v; letter = y }) ys

unfoldable pub scan : ℕ → List ℕ → List Spot
scan zero ys = []
scan (suc N) ys = scan N ys ++ spots_of ys N

-- the spot of a place in the scan
abbrev pub spot_at : List ℕ → Option Place → Option Spot
spot_at ys none = none
spot_at ys (some p) = some (record { point = p.row; letter = get_or ys p.index 0 })

unfoldable pub first_met : Cells → ℕ → List ℕ → ℕ → Option Spot
first_met c N ys x = spot_at ys (first_place (λ v i. eqb (c v (get_or ys i 0)) x) N (length ys))

-- the path that ends with the letter of a spot
abbrev pub path_through : (ℕ → List ℕ) → Option Spot → List ℕ
path_through path none = []
path_through path (some s) = path s.point ++ (s.letter ∷ [])

-- the path of x, followed back over at most d points
unfoldable pub path_from : Cells → ℕ → List ℕ → ℕ → ℕ → List ℕ
path_from c N ys zero x = []
path_from c N ys (suc d) x =
    cond (eqb x 0) [] (path_through (λ v. path_from c N ys d v) (first_met c N ys x))

-- each step back leads to a smaller point, so x steps are enough
unfoldable pub path_of : Cells → ℕ → List ℕ → ℕ → List ℕ
path_of c N ys x = path_from c N ys x x

-- two spots are the same
abbrev pub is_spot : ℕ → ℕ → Option Spot → Bool
is_spot v y none = false
is_spot v y (some s) = eqb s.point v && eqb s.letter y

-- the path of the point that y leads to from v ends with this step
unfoldable pub is_path_step : Cells → ℕ → List ℕ → ℕ → ℕ → Bool
is_path_step c N ys v y = not (eqb (c v y) 0) && is_spot v y (first_met c N ys (c v y))

-- the edge at v and y is used by a path, in this direction or the other
unfoldable pub is_path_edge : Cells → ℕ → List ℕ → ℕ → ℕ → Bool
is_path_edge c N ys v y = is_path_step c N ys v y || is_path_step c N ys (c v y) (inv y)

-- the spots that pass a test, in order
unfoldable pub those : (Spot → Bool) → List Spot → List Spot
those f [] = []
those f (s ∷ ss) = cond (f s) (s ∷ those f ss) (those f ss)

-- an edge: a cell of a lower-case letter that is not absent
abbrev pub is_edge : Cells → Spot → Bool
is_edge c s = is_lower s.letter && not (eqb (c s.point s.letter) absent)

unfoldable pub edges_of : Cells → ℕ → List ℕ → List Spot
edges_of c N ys = those (is_edge c) (scan N ys)

unfoldable pub outside_edges : Cells → ℕ → List ℕ → List Spot
outside_edges c N ys = those (λ s. not (is_path_edge c N ys s.point s.letter)) (edges_of c N ys)

unfoldable pub basis_word : Cells → ℕ → List ℕ → Spot → List ℕ
basis_word c N ys s =
    reduced (path_of c N ys s.point ++ s.letter ∷ inverse_of (path_of c N ys (c s.point s.letter)))

unfoldable pub basis_of : Cells → ℕ → List ℕ → List (List ℕ)
basis_of c N ys = map (basis_word c N ys) (outside_edges c N ys)

-- the number of a spot in a list of them, from 1; 0 where it is not there
unfoldable pub number_in : List Spot → ℕ → ℕ → ℕ → ℕ
number_in [] k v y = zero
number_in (s ∷ ss) k v y = cond (eqb s.point v && eqb s.letter y) k (number_in ss (suc k) v y)

-- no number for a path's edge, else the number, and its inverse for an edge read backwards
abbrev pub signed : Bool → ℕ → List ℤ
signed forward zero = []
signed true (suc k) = pos (suc k) ∷ []
signed false (suc k) = negsuc k ∷ []

-- what is noted when letter y is read from v
unfoldable pub crossing : Cells → ℕ → List ℕ → ℕ → ℕ → List ℤ
crossing c N ys v y =
    cond (is_lower y) (signed true (number_in (outside_edges c N ys) 1 v y))
    (signed false (number_in (outside_edges c N ys) 1 (c v y) (inv y)))

-- what is noted when a word is read from v
unfoldable pub crossings : Cells → ℕ → List ℕ → ℕ → List ℕ → List ℤ
crossings c N ys v [] = []
crossings c N ys v (y ∷ w) = crossing c N ys v y ++ crossings c N ys (c v y) w

unfoldable pub expression_of : Cells → ℕ → List ℕ → List ℕ → List ℤ
expression_of c N ys q = crossings c N ys 0 (reduced q)

-- minus cuts off at 0, so the + 1 comes first
unfoldable pub rank_of : Cells → ℕ → List ℕ → ℕ
rank_of c N ys = length (edges_of c N ys) + 1 - N

pub data Index : Type 0 where
  finite : ℕ → Index
  infinite : Index

-- every element of a list passes the test
unfoldable pub all : {A : Type 0} → (A → Bool) → List A → Bool
all f [] = true
all f (a ∷ l) = f a && all f l

-- no cell of the N rows is absent
unfoldable pub is_full : Cells → ℕ → List ℕ → Bool
is_full c N ys = all (λ s. not (eqb (c s.point s.letter) absent)) (scan N ys)

unfoldable pub index_of : Cells → ℕ → List ℕ → Index
index_of c N ys = cond (is_full c N ys) (finite N) infinite

-- every basis word leads from p back to p
unfoldable pub leads_back : Cells → ℕ → List ℕ → ℕ → Bool
leads_back c N ys p = all (λ w. is_at p (end_of c p w)) (basis_of c N ys)

-- a letter absent at the base is passed over
unfoldable pub is_normal : Cells → ℕ → List ℕ → Bool
is_normal c N ys = all (λ y. eqb (c 0 y) absent || leads_back c N ys (c 0 y)) ys
