-- What the steps of `note_paths` leave, cited by their contracts.
--   noted N work x v y d    == the three cells of x hold v, y and d
--   is_new g x               == the cell x leads to a point beyond g
--   met_after c v y g        == the greatest point met, once the cell of letter y at v is passed
--   noted_after c N work v y g == the work cells then
-- Assumes nothing.
use Rattle.std.specs.Prelude.{Bool, cond, not, ◌&&◌, List, ℕ, ◌+◌, ◌*◌, eqb, ltb, get_or, set}
use Rattle.theory.specs.Tables.{absent, Cells}

abbrev pub noted : ℕ → List ℕ → ℕ → ℕ → ℕ → ℕ → List ℕ
noted N work x v y d = set (set (set work x v) (N + x) y) (2 * N + x) d

abbrev pub is_new : ℕ → ℕ → Bool
is_new g x = not (eqb x absent) && ltb g x

abbrev pub met_after : Cells → ℕ → ℕ → ℕ → ℕ
met_after c v y g = cond (is_new g (c v y)) (c v y) g

abbrev pub noted_after : Cells → ℕ → List ℕ → ℕ → ℕ → ℕ → List ℕ
noted_after c N work v y g =
    cond (is_new g (c v y)) (noted N work (c v y) v y (get_or work (2 * N + v) 0 + 1)) work
