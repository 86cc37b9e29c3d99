-- The folding engine's operations, on plain values.
--   State            == the cells, the root of each name, the pending points, and how many points are made
--   state_of c f ps n == the state whose roots are those of the forward function f
--   united s p q     == the points of p and q made one: the smaller root wins, the greater goes on the pending list
--   joined s a y b   == a joined to b by letter y; where a cell is taken, the edge is dropped and two points are made one
--   moved s v u y    == the edge at (v, y) moved to u; cleared s v u ys == for each letter
--   turned ys s      == one turn of draining: the newest pending point is taken off and its edges move to its root
--   drained ys s     == turns until nothing is pending; as many as points made are enough
--   grown s          == one point more
--   chained s a w b  == a way from a to b that reads w, with new points between its letters
--   taken_in s w      == the word w taken in: read forward and backward from the base as far as cells exist, the middle chained
--   folded ys s ws   == each word of ws, reduced, taken in and drained; start is the base alone
-- Which pending point is the next is said in `turned_by` alone. The empty word needs no case: `taken_in s []` unites 0 with 0.
-- Assumes nothing.
use Rattle.std.specs.Prelude.{cond, List, [], ◌∷◌, ℕ, zero, suc, min, max, eqb}
use Rattle.theory.specs.Words.{inv, reduced, inverse_of}
use Rattle.theory.specs.Tables.{absent, Cells}
use Rattle.engine.specs.Cells.{linked, unlinked}
use Rattle.engine.specs.Roots.{root_of, absorbed}

pub record State : Type 0 where
  pub cells : Cells
  pub root : ℕ → ℕ
  pub pending : List ℕ
  pub made : ℕ

abbrev pub state_of : Cells → (ℕ → ℕ) → List ℕ → ℕ → State
state_of c f ps n = record { cells = c; root = root_of f; pending = ps; made = n }

-- a state with other cells
abbrev pub with_cells : State → Cells → State
with_cells s c = record { cells = c; root = s.root; pending = s.pending; made = s.made }

-- a state with another pending list
abbrev pub with_pending : State → List ℕ → State
with_pending s ps = record { cells = s.cells; root = s.root; pending = ps; made = s.made }

-- the root hi sent to the root lo
abbrev pub pushed : State → ℕ → ℕ → State
pushed s lo hi = record { cells = s.cells; root = absorbed s.root lo hi; pending = hi ∷ s.pending; made = s.made }

unfoldable pub united : State → ℕ → ℕ → State
united s p q =
    cond (eqb (s.root p) (s.root q)) s
    (pushed s (min (s.root p) (s.root q)) (max (s.root p) (s.root q)))

unfoldable pub joined : State → ℕ → ℕ → ℕ → State
joined s a y b =
    cond (eqb (s.cells a y) absent)
    (cond (eqb (s.cells b (inv y)) absent) (with_cells s (linked s.cells a y b)) (united s (s.cells b (inv y)) a))
    (united s (s.cells a y) b)

-- the far end of an edge of v that moves to u: u itself for a loop
abbrev pub far_end : ℕ → ℕ → ℕ → ℕ
far_end v u q = cond (eqb q v) u q

unfoldable pub moved : State → ℕ → ℕ → ℕ → State
moved s v u y =
    cond (eqb (s.cells v y) absent) s
    (joined (with_cells s (unlinked s.cells v y)) u y (far_end v u (s.cells v y)))

unfoldable pub cleared : State → ℕ → ℕ → List ℕ → State
cleared s v u [] = s
cleared s v u (y ∷ ys) = cleared (moved s v u y) v u ys

-- the turn of the point that stands first
unfoldable pub turned_by : List ℕ → State → List ℕ → State
turned_by ys s [] = s
turned_by ys s (v ∷ ps) = cleared (with_pending s ps) v (s.root v) ys

abbrev pub turned : List ℕ → State → State
turned ys s = turned_by ys s s.pending

-- some turns
unfoldable pub turned_times : List ℕ → ℕ → State → State
turned_times ys zero s = s
turned_times ys (suc d) s = turned_times ys d (turned ys s)

abbrev pub drained : List ℕ → State → State
drained ys s = turned_times ys s.made s

abbrev pub grown : State → State
grown s = record { cells = s.cells; root = s.root; pending = s.pending; made = suc s.made }

unfoldable pub chained : State → ℕ → List ℕ → ℕ → State
chained s a [] b = united s a b
chained s a (y ∷ []) b = joined s a y b
chained s a (y ∷ (z ∷ w)) b = chained (joined (grown s) a y s.made) s.made (z ∷ w) b

-- where reading stopped, and what is left to read
pub record Ahead : Type 0 where
  pub point : ℕ
  pub rest : List ℕ

-- w read from v as far as cells exist
unfoldable pub ahead : Cells → ℕ → List ℕ → Ahead
ahead c v [] = record { point = v; rest = [] }
ahead c v (y ∷ w) = cond (eqb (c v y) absent) (record { point = v; rest = y ∷ w }) (ahead c (c v y) w)

-- w read forward from the base
abbrev pub front : Cells → List ℕ → Ahead
front c w = ahead c 0 w

-- what is left of it read backward, by inverses
abbrev pub behind : Cells → List ℕ → Ahead
behind c w = ahead c 0 (inverse_of (front c w).rest)

-- what is left of that is chained
unfoldable pub taken_in : State → List ℕ → State
taken_in s w =
    chained s (front s.cells w).point (inverse_of (behind s.cells w).rest) (behind s.cells w).point

-- the base alone
unfoldable pub start : State
start = record { cells = λ v y. absent; root = λ v. v; pending = []; made = 1 }

unfoldable pub folded : List ℕ → State → List (List ℕ) → State
folded ys s [] = s
folded ys s (w ∷ ws) = folded ys (drained ys (taken_in s (reduced w))) ws
