-- What finding a root leaves in the lent cells, cited by `find` and `unite`.
--   halved_path d cells v == the cells after at most d turns of halving from v: each name on the way is sent two steps on
--   halved_from cells v   == the way halved to its end: v turns are always enough
--   Found                <-> the answer and the cells after `find`
-- The forward cells are the first n (engine, `Work`). Assumes nothing.
use Rattle.std.specs.Prelude.{◌≡◌, cond, List, ℕ, zero, suc, eqb, get_or, set}
use Rattle.engine.specs.Roots.{root_of}
use Rattle.engine.specs.Work.{forward_of}

-- two steps from v
abbrev pub two_on : List ℕ → ℕ → ℕ
two_on cells v = get_or cells (get_or cells v 0) 0

unfoldable pub halved_path : ℕ → List ℕ → ℕ → List ℕ
halved_path zero cells v = cells
halved_path (suc d) cells v =
    cond (eqb (get_or cells v 0) v) cells (halved_path d (set cells v (two_on cells v)) (two_on cells v))

abbrev pub halved_from : List ℕ → ℕ → List ℕ
halved_from cells v = halved_path v cells v

pub record Found (old : List ℕ) (n v r : ℕ) (after : List ℕ) : Type 0 where
  pub root : r ≡ root_of (forward_of old n) v
  pub cells : after ≡ halved_from old v
