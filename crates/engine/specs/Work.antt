-- Lent cells as the engine reads them.
--   forward_of f n  == the forward function that the first n cells of f hold; a name not made is its own
--   pending_of p k  == the pending points that the first k cells of p hold, the newest first
--   Holds n R old c after <-> the table `after` holds the cells c in a room of R rows, and behind it what `old` held
-- The table's cells are `cell` (theory, `Tables`), with the room for its number of points. Assumes nothing.
use Rattle.std.specs.Prelude.{◌≡◌, cond, List, [], ◌∷◌, ℕ, zero, suc, ◌*◌, ltb, length, get_or, drop}
use Rattle.theory.specs.Tables.{Cells, cell}

unfoldable pub forward_of : List ℕ → ℕ → ℕ → ℕ
forward_of f n v = cond (ltb v n) (get_or f v 0) v

unfoldable pub pending_of : List ℕ → ℕ → List ℕ
pending_of p zero = []
pending_of p (suc k) = get_or p k 0 ∷ pending_of p k

pub record Holds (n R : ℕ) (old : List ℕ) (c : Cells) (after : List ℕ) : Type 0 where
  pub same : length after ≡ length old
  pub cells : (v y : ℕ) → cell n R after v y ≡ c v y
  pub rest : drop (R * (2 * n)) after ≡ drop (R * (2 * n)) old
