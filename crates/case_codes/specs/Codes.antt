-- The codes of stored cases: a byte stands for itself, but for the last few.
--   number_of b == 253 is 258, 254 is 1,048,578, 255 is 4,294,967,297
--   cell_of b   == 254 is 4,294,967,294, 255 the absent mark
--   cells_of codes out == the cells that codes stand for, then what was there
-- Assumes nothing.
use Rattle.std.specs.Prelude.{cond, List, ◌++◌, map, ℕ, eqb, length, drop}

unfoldable pub number_of : ℕ → ℕ
number_of b = cond (eqb b 253) 258 (cond (eqb b 254) 1048578 (cond (eqb b 255) 4294967297 b))

unfoldable pub cell_of : ℕ → ℕ
cell_of b = cond (eqb b 254) 4294967294 (cond (eqb b 255) 4294967295 b)

-- the cells that codes stand for, then what was there
unfoldable pub cells_of : List ℕ → List ℕ → List ℕ
cells_of codes out = map cell_of codes ++ drop (length codes) out
