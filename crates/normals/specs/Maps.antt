-- The table read from two points side by side, as the steps of `normal` do it, cited by their contracts.
--   carried_met c work v y g   == the greatest point met, once that cell is carried over; none where it cannot be
--   carried_cells c work v y g == the work cells then
--   passes_base c N ys y       == letter y is absent at the base, or every basis word leads from where it leads back to there
-- Cell x of the work holds the image of point x. A cell that leads to x is carried over where the same letter leads on from the image: to
-- the image of x if x was met before; else there is the image of x. Assumes nothing.
use Rattle.std.specs.Prelude.{Bool, cond, not, ◌&&◌, ◌||◌, List, ℕ, eqb, ltb, get_or, set}
use Rattle.std.specs.declared.option.Option.{Option}
use Rattle.std.specs.declared.option.Option.TheVariants.{None, Some}
use Rattle.theory.specs.Tables.{absent, Cells}
use Rattle.theory.specs.Basis.{leads_back}

abbrev pub carried_met : Cells → List ℕ → ℕ → ℕ → ℕ → Option ℕ
carried_met c work v y g =
    cond (eqb (c v y) absent) (Some g)
    (cond (eqb (c (get_or work v 0) y) absent) None
    (cond (ltb g (c v y)) (Some (c v y)) (cond (eqb (get_or work (c v y) 0) (c (get_or work v 0) y)) (Some g) None)))

abbrev pub carried_cells : Cells → List ℕ → ℕ → ℕ → ℕ → List ℕ
carried_cells c work v y g =
    cond (not (eqb (c v y) absent) && (not (eqb (c (get_or work v 0) y) absent) && ltb g (c v y)))
    (set work (c v y) (c (get_or work v 0) y)) work

abbrev pub passes_base : Cells → ℕ → List ℕ → ℕ → Bool
passes_base c N ys y = eqb (c 0 y) absent || leads_back c N ys (c 0 y)
