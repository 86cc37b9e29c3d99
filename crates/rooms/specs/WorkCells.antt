-- What the engine's operations leave in the work cells w: each beside the operation of its name in the model (engine, `Engine`),
-- and by its cases. R is the number of rows: the forward cells stand first, the pending cells from R on.
--   united_work R s w p q    == the ways of p and q halved; where their roots differ, the greater is sent and noted
--   joined_work R s w a y b  == nothing where both cells are free, else one uniting
--   moved_work, cleared_work  == one edge, or each edge, of a point moved
--   turned_work R ys s w     == the root of the point taken off is found, then its edges move; drained_work == turn after turn
--   grown_work s w           == the new point is its own forward
--   chained_work R s w a u b == a new point for each letter but the last; taken_work == the middle of a word chained
-- Cited by the contracts of links, drains and takes. Assumes nothing.
use Rattle.std.specs.Prelude.{cond, List, [], ◌∷◌, ℕ, zero, suc, ◌+◌, eqb, length, set}
use Rattle.theory.specs.Words.{inv, inverse_of}
use Rattle.theory.specs.Tables.{absent}
use Rattle.engine.specs.Cells.{unlinked}
use Rattle.engine.specs.Engine.{State, with_cells, with_pending, joined, far_end, moved, turned, grown, front, behind}
use Rattle.rooms.specs.Finding.{halved_from}
use Rattle.rooms.specs.Uniting.{both_halved, united_cells}

unfoldable pub united_work : ℕ → State → List ℕ → ℕ → ℕ → List ℕ
united_work R s w p q = united_cells (both_halved w p q) (R + length s.pending) (s.root p) (s.root q)

unfoldable pub joined_work : ℕ → State → List ℕ → ℕ → ℕ → ℕ → List ℕ
joined_work R s w a y b =
    cond (eqb (s.cells a y) absent)
    (cond (eqb (s.cells b (inv y)) absent) w (united_work R s w (s.cells b (inv y)) a))
    (united_work R s w (s.cells a y) b)

unfoldable pub moved_work : ℕ → State → List ℕ → ℕ → ℕ → ℕ → List ℕ
moved_work R s w v u y =
    cond (eqb (s.cells v y) absent) w
    (joined_work R (with_cells s (unlinked s.cells v y)) w u y (far_end v u (s.cells v y)))

unfoldable pub cleared_work : ℕ → State → List ℕ → ℕ → ℕ → List ℕ → List ℕ
cleared_work R s w v u [] = w
cleared_work R s w v u (y ∷ ys) = cleared_work R (moved s v u y) (moved_work R s w v u y) v u ys

-- the turn of the point that stands first
unfoldable pub turned_work_by : ℕ → List ℕ → State → List ℕ → List ℕ → List ℕ
turned_work_by R ys s w [] = w
turned_work_by R ys s w (v ∷ ps) = cleared_work R (with_pending s ps) (halved_from w v) v (s.root v) ys

abbrev pub turned_work : ℕ → List ℕ → State → List ℕ → List ℕ
turned_work R ys s w = turned_work_by R ys s w s.pending

-- some turns
unfoldable pub times_work : ℕ → List ℕ → ℕ → State → List ℕ → List ℕ
times_work R ys zero s w = w
times_work R ys (suc d) s w = times_work R ys d (turned ys s) (turned_work R ys s w)

abbrev pub drained_work : ℕ → List ℕ → State → List ℕ → List ℕ
drained_work R ys s w = times_work R ys s.made s w

abbrev pub grown_work : State → List ℕ → List ℕ
grown_work s w = set w s.made s.made

unfoldable pub chained_work : ℕ → State → List ℕ → ℕ → List ℕ → ℕ → List ℕ
chained_work R s w a [] b = united_work R s w a b
chained_work R s w a (y ∷ []) b = joined_work R s w a y b
chained_work R s w a (y ∷ (z ∷ u)) b =
    chained_work R (joined (grown s) a y s.made) (joined_work R (grown s) (grown_work s w) a y s.made) s.made (z ∷ u) b

unfoldable pub taken_work : ℕ → State → List ℕ → List ℕ → List ℕ
taken_work R s w u =
    chained_work R s w (front s.cells u).point (inverse_of (behind s.cells u).rest) (behind s.cells u).point
