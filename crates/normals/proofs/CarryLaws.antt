-- The step of `carry` on plain values.
--   Passed, New, Same, Apart : what is known of a cell that was carried over, by the four ways; carried_cases : one of them holds
-- Assumes nothing.
use mathlib.Core.Path.{◌≡◌, ◌∙◌}
use mathlib.Core.Logic.{◌⊎◌, inl, inr, by_cases}
use mathlib.Core.List.{List}
use Prim.Native.Nat.{ℕ, ◌≤◌, ◌<◌}
use native.Mathlib.Decide.{ℕ_discrete, dec_lt}
use native.Mathlib.Omega.{arith}
use lib.ListN.{get_or, set}
use Rattle.std.specs.declared.option.Option.{Option}
use Rattle.std.specs.declared.option.Option.TheVariants.{None, Some}
use borrow.Author.Tests.{eq-eqb, ne_eqb, lt-ltb, le-ltb}
use Rattle.theory.specs.Tables.{absent, Cells}
use Rattle.normals.specs.Maps.{carried_met, carried_cells}

module _ (c : Cells) (work : List ℕ) (v y g : ℕ) where
  -- the same letter at the image of v
  abbrev image : ℕ
  image = c (get_or work v 0) y

  -- the cell is absent
  pub record Passed (m : Option ℕ) (after : List ℕ) : Type 0 where
    pub nowhere : c v y ≡ absent
    pub met : m ≡ Some g
    pub cells : after ≡ work

  -- the cell leads to a new point
  pub record New (m : Option ℕ) (after : List ℕ) : Type 0 where
    pub there : c v y ≡ absent → ⊥
    pub on : c (get_or work v 0) y ≡ absent → ⊥
    pub beyond : g < c v y
    pub met : m ≡ Some (c v y)
    pub cells : after ≡ set work (c v y) (c (get_or work v 0) y)

  -- it leads to a point met before, and from the image to that point's
  pub record Same (m : Option ℕ) (after : List ℕ) : Type 0 where
    pub there : c v y ≡ absent → ⊥
    pub on : c (get_or work v 0) y ≡ absent → ⊥
    pub seen : c v y ≤ g
    pub agree : get_or work (c v y) 0 ≡ c (get_or work v 0) y
    pub met : m ≡ Some g
    pub cells : after ≡ work

  -- it cannot be carried over
  pub record Apart (m : Option ℕ) (after : List ℕ) : Type 0 where
    pub there : c v y ≡ absent → ⊥
    pub why : (c (get_or work v 0) y ≡ absent) ⊎ ((c v y ≤ g) × (get_or work (c v y) 0 ≡ c (get_or work v 0) y → ⊥))
    pub met : m ≡ None
    pub cells : after ≡ work

  met_none : c v y ≡ absent → carried_met c work v y g ≡ Some g
  met_none e = rw (eq-eqb (c v y) absent e)

  cells_none : c v y ≡ absent → carried_cells c work v y g ≡ work
  cells_none e = rw (eq-eqb (c v y) absent e)

  module _ (there : c v y ≡ absent → ⊥) where
    met_stuck : image ≡ absent → carried_met c work v y g ≡ None
    met_stuck e = rw (ne_eqb (c v y) absent there, eq-eqb image absent e)

    cells_stuck : image ≡ absent → carried_cells c work v y g ≡ work
    cells_stuck e = rw (ne_eqb (c v y) absent there, eq-eqb image absent e)

    module _ (on : image ≡ absent → ⊥) where
      met_new : g < c v y → carried_met c work v y g ≡ Some (c v y)
      met_new h = rw (ne_eqb (c v y) absent there, ne_eqb image absent on, lt-ltb g (c v y) h)

      cells_new : g < c v y → carried_cells c work v y g ≡ set work (c v y) image
      cells_new h = rw (ne_eqb (c v y) absent there, ne_eqb image absent on, lt-ltb g (c v y) h)

      cells_old : c v y ≤ g → carried_cells c work v y g ≡ work
      cells_old h = rw (ne_eqb (c v y) absent there, ne_eqb image absent on, le-ltb g (c v y) h)

      met_same : c v y ≤ g → get_or work (c v y) 0 ≡ image → carried_met c work v y g ≡ Some g
      met_same h e =
          rw (ne_eqb (c v y) absent there, ne_eqb image absent on, le-ltb g (c v y) h, eq-eqb (get_or work (c v y) 0) image e)

      met_apart : c v y ≤ g → (get_or work (c v y) 0 ≡ image → ⊥) → carried_met c work v y g ≡ None
      met_apart h e =
          rw (ne_eqb (c v y) absent there, ne_eqb image absent on, le-ltb g (c v y) h, ne_eqb (get_or work (c v y) 0) image e)

  module _ {m : Option ℕ} {after : List ℕ} (p : m ≡ carried_met c work v y g) (q : after ≡ carried_cells c work v y g) where
    pub carried_cases : Passed m after ⊎ (New m after ⊎ (Same m after ⊎ Apart m after))
    carried_cases =
        by_cases (ℕ_discrete (c v y) absent)
        (λ e. inl (record { nowhere = e; met = p ∙ met_none e; cells = q ∙ cells_none e }))
        (λ a. by_cases (ℕ_discrete image absent)
        (λ e. inr (inr (inr (record { there = a; why = inl e; met = p ∙ met_stuck a e; cells = q ∙ cells_stuck a e }))))
        (λ b. by_cases (dec_lt g (c v y))
        (λ h. inr (inl (record { there = a; on = b; beyond = h; met = p ∙ met_new a b h; cells = q ∙ cells_new a b h })))
        (λ h. let k : c v y ≤ g = omega arith in
        by_cases (ℕ_discrete (get_or work (c v y) 0) image)
        (λ e. inr (inr (inl (record { there = a; on = b; seen = k; agree = e; met = p ∙ met_same a b k e; cells = q ∙ cells_old a b k }))))
        (λ e. inr (inr (inr (record { there = a; why = inr (k, e); met = p ∙ met_apart a b k e; cells = q ∙ cells_old a b k })))))))
