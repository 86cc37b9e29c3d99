-- Paths as the cells of `paths` hold them, followed up to the base.
--   depth_of N work x        == the length of the path of x
--   noted_path N work d x    == the last d letters of the path of x, followed up through the cells
--   is_noted_step N work v y x == the path of x ends with letter y from v
--   path_bytes, back_bytes    == the bytes of the path of x, and of its inverse
--   loop_bytes N work v y x  == the line of a basis word: path of v, letter y, inverse of the path of x, line end
-- Assumes nothing.
use Rattle.std.specs.Prelude.{Bool, not, ◌&&◌, List, [], ◌∷◌, ◌++◌, map, ℕ, zero, suc, ◌+◌, ◌*◌, eqb, get_or}
use Rattle.theory.specs.Words.{inverse_of}
use Rattle.theory.specs.Letters.{byte_of, line_end}

abbrev pub depth_of : ℕ → List ℕ → ℕ → ℕ
depth_of N work x = get_or work (2 * N + x) 0

unfoldable pub noted_path : ℕ → List ℕ → ℕ → ℕ → List ℕ
noted_path N work zero x = []
noted_path N work (suc d) x = noted_path N work d (get_or work x 0) ++ (get_or work (N + x) 0 ∷ [])

abbrev pub is_noted_step : ℕ → List ℕ → ℕ → ℕ → ℕ → Bool
is_noted_step N work v y x = not (eqb x 0) && (eqb (get_or work x 0) v && eqb (get_or work (N + x) 0) y)

unfoldable pub path_bytes : ℕ → List ℕ → ℕ → List ℕ
path_bytes N work x = map byte_of (noted_path N work (depth_of N work x) x)

unfoldable pub back_bytes : ℕ → List ℕ → ℕ → List ℕ
back_bytes N work x = map byte_of (inverse_of (noted_path N work (depth_of N work x) x))

unfoldable pub loop_bytes : ℕ → List ℕ → ℕ → ℕ → ℕ → List ℕ
loop_bytes N work v y x = path_bytes N work v ++ (byte_of y ∷ (back_bytes N work x ++ (line_end ∷ [])))
