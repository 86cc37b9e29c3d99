-- What uniting two points leaves in the lent cells, cited by `send` and `unite`.
--   sent cells lo hi at  == forward of hi holds lo, and cell `at` holds hi
--   both_halved cells p q == the ways of p and then of q halved
--   United               <-> the new number of pending points and the cells after `unite`
-- The pending cells stand from `room` on; the forward cells are the first n. Assumes nothing.
use Rattle.std.specs.Prelude.{◌≡◌, cond, List, ℕ, ◌+◌, min, max, eqb, set}
use Rattle.engine.specs.Roots.{root_of}
use Rattle.engine.specs.Work.{forward_of}
use Rattle.rooms.specs.Finding.{halved_from}

unfoldable pub sent : List ℕ → ℕ → ℕ → ℕ → List ℕ
sent cells lo hi at = set (set cells hi lo) at hi

abbrev pub both_halved : List ℕ → ℕ → ℕ → List ℕ
both_halved cells p q = halved_from (halved_from cells p) q

-- for points of the roots a and b
unfoldable pub united_cells : List ℕ → ℕ → ℕ → ℕ → List ℕ
united_cells cells at a b = cond (eqb a b) cells (sent cells (min a b) (max a b) at)

unfoldable pub united_count : ℕ → ℕ → ℕ → ℕ
united_count count a b = cond (eqb a b) count (count + 1)

pub record United (old : List ℕ) (n room count p q r : ℕ) (after : List ℕ) : Type 0 where
  pub pending : r ≡ united_count count (root_of (forward_of old n) p) (root_of (forward_of old n) q)
  pub cells
      : after
      ≡ united_cells (both_halved old p q) (room + count) (root_of (forward_of old n) p) (root_of (forward_of old n) q)
