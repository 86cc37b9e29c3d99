-- Names and roots. A point has many names; each name is forwarded to one that is no greater, and its root is where that ends.
--   Falls f          <-> no name is forwarded to a greater one
--   root_of f v        == the root of v: forward followed from v to its end; v steps are always enough
--   redirected f v x  == forward with v sent to x
--   halved f v        == forward with v sent two steps at once, as finding a root does on its way
--   absorbed root lo hi == the root function once hi, a root, has been sent to the root lo
--   root_count root n  == how many of the names below n are roots
-- Halving changes forward but no root: `RootLaws`. So a state (`Engine`) holds the root function. Assumes nothing.
use Rattle.std.specs.Prelude.{cond, ℕ, zero, suc, ◌≤◌, eqb}

abbrev pub Falls : (ℕ → ℕ) → Type 0
Falls f = (v : ℕ) → f v ≤ v

-- forward followed d times from v
unfoldable pub followed : (ℕ → ℕ) → ℕ → ℕ → ℕ
followed f zero v = v
followed f (suc d) v = followed f d (f v)

unfoldable pub root_of : (ℕ → ℕ) → ℕ → ℕ
root_of f v = followed f v v

unfoldable pub redirected : (ℕ → ℕ) → ℕ → ℕ → ℕ → ℕ
redirected f v x u = cond (eqb u v) x (f u)

abbrev pub halved : (ℕ → ℕ) → ℕ → ℕ → ℕ
halved f v = redirected f v (f (f v))

unfoldable pub absorbed : (ℕ → ℕ) → ℕ → ℕ → ℕ → ℕ
absorbed root lo hi v = cond (eqb (root v) hi) lo (root v)

unfoldable pub root_count : (ℕ → ℕ) → ℕ → ℕ
root_count root zero = zero
root_count root (suc n) = cond (eqb (root n) n) (suc (root_count root n)) (root_count root n)
