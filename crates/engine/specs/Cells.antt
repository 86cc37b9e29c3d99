-- What the engine does to cells alone. Cells are a function of point and letter (theory, `Tables`).
--   put c v y x      == the cells c with x at (v, y)
--   linked c a y b   == c with the edge that letter y reads from a to b: both its cells
--   unlinked c v y   == c without the edge at (v, y): both its cells
--   transposed k p v == the name of point v once k and p have exchanged their names
--   exchanged c k p  == c with the names k and p exchanged
--   trading c k p i  == c on the way there: the edges that leave k or p by letters below i are done
--   traded_at c k p y == one turn on that way: rows k and p trade their cells of y, and the far ends are mended
-- Cited by `Engine`, `Numbering` and the laws. Assumes nothing.
use Rattle.std.specs.Prelude.{cond, ◌&&◌, ◌||◌, ℕ, eqb, ltb}
use Rattle.theory.specs.Words.{inv}
use Rattle.theory.specs.Tables.{absent, Cells}

unfoldable pub put : Cells → ℕ → ℕ → ℕ → Cells
put c v y x u z = cond (eqb u v && eqb z y) x (c u z)

unfoldable pub linked : Cells → ℕ → ℕ → ℕ → Cells
linked c a y b = put (put c a y b) b (inv y) a

unfoldable pub unlinked : Cells → ℕ → ℕ → Cells
unlinked c v y = put (put c (c v y) (inv y) absent) v y absent

unfoldable pub transposed : ℕ → ℕ → ℕ → ℕ
transposed k p v = cond (eqb v k) p (cond (eqb v p) k v)

unfoldable pub exchanged : Cells → ℕ → ℕ → Cells
exchanged c k p v y = transposed k p (c (transposed k p v) y)

-- the letter at k or p by which the edge at (v, y) is handled
abbrev pub at_ends : ℕ → ℕ → ℕ → ℕ → ℕ
at_ends k p v y = cond (eqb v k || eqb v p) y (inv y)

unfoldable pub trading : Cells → ℕ → ℕ → ℕ → Cells
trading c k p i v y = cond (ltb (at_ends k p v y) i) (exchanged c k p v y) (c v y)

-- where q is a point other than k and p, its cell back by y holds x
unfoldable pub mended : Cells → ℕ → ℕ → ℕ → ℕ → ℕ → Cells
mended c k p q y x = cond (eqb q absent || (eqb q k || eqb q p)) c (put c q (inv y) x)

-- rows k and p, whose cells of y hold a and b, trade them, and the far ends are mended
unfoldable pub traded_by : Cells → ℕ → ℕ → ℕ → ℕ → ℕ → Cells
traded_by c k p y a b =
    mended (mended (put (put c k y (transposed k p b)) p y (transposed k p a)) k p a y p) k p b y k

abbrev pub traded_at : Cells → ℕ → ℕ → ℕ → Cells
traded_at c k p y = traded_by c k p y (c k y) (c p y)
