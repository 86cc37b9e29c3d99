-- A pass over the cells of a canonical table, and the points met in it, for all that pass so.
--   Met n N t v y g <-> the cells before letter y of row v are passed, and g is the greatest point met
--   met_first, met-turn, met_row : so it is at the first cell, after a cell, after a row
--   met_before, row_met : a point met before is at most the greatest met; so is the point of the row in hand
--   first_here, next_here : a point beyond the greatest met is met first where it is met, and it is the next one
-- Assumes nothing.
use mathlib.Core.Path.{◌≡◌, refl, sym, ◌∙◌, ap}
use mathlib.Core.Logic.{inl, by_cases}
use mathlib.Core.Bool.{true, false}
use mathlib.Core.Option.{some}
use mathlib.Core.List.{List, [], ◌∷◌}
use Prim.Native.Nat.{ℕ, suc, ◌*◌, ◌≤◌, ◌<◌, max}
use native.Mathlib.Decide.{ℕ_discrete}
use native.Mathlib.Omega.{arith}
use lib.ListN.{length}
use borrow.Author.Tests.{eq-eqb, ne_eqb}
use Rattle.theory.specs.Letters.{usual}
use Rattle.theory.specs.Tables.{absent, Cells, cell}
use Rattle.theory.specs.Canonical.{earlier, greatest_met}
use Rattle.theory.specs.Basis.{first_met}
use Rattle.theory.proofs.TableLaws.{length_usual, get_or_usual, cell_bounded}
use Rattle.theory.proofs.PlaceLaws.{ComesBefore}
use Rattle.theory.proofs.RowLaws.{earlier_row, earlier_start, greatest_met-append}
use Rattle.theory.proofs.PathLaws.{spot, met}
use Rattle.tables.proofs.LentLaws.{IsSound, sound_setting}
use Rattle.tables.proofs.ScanLaws.{before_more, met_before as seen-before, first_here as met-here}
use Rattle.paths.specs.Notes.{is_new}
use Rattle.paths.proofs.NoteLaws.{new_beyond, new_not}

pub record Met (n N : ℕ) (t : List ℕ) (v y g : ℕ) : Type 0 where
  pub point : v ≤ N
  pub letter : y ≤ 2 * n
  pub greatest : g ≡ greatest_met (earlier (cell n N t) (usual n) v y)
  pub below : g < N

module _ {n N : ℕ} {t : List ℕ} (R : IsSound n N t) where
  abbrev c : Cells
  c = cell n N t

  -- before the first cell the base alone is met
  pub met_first : Met n N t 0 0 0
  unfolding greatest_met
  met_first =
      record {
        point = omega arith;
        letter = omega arith;
        greatest = sym (ap greatest_met (earlier_start c (usual n)));
        below = omega (arith, R.lent.based);
      }

  module _ {v y g : ℕ} (H : Met n N t v y g) where
    -- a point met before its place is at most the greatest met
    pub met_before : (u j : ℕ) → ComesBefore u j v y → j < 2 * n → (c u j ≡ absent → ⊥) → c u j ≤ g
    met_before u j b h m = omega (arith, H.greatest, seen-before c n v y u j b h m)

    -- a point below the row in hand, and the row's own, are met
    pub row_met : (x : ℕ) → x ≤ v → x < N → x ≤ g
    row_met x h hx =
        by_cases (ℕ_discrete x 0) (λ z. omega arith)
        (λ z. let m = met (sound_setting R) x z hx in
        let b = cell_bounded n N t m.0.point m.0.letter (λ e. m.3.1 (sym m.3.0 ∙ e)) in
        let i : m.0.letter < 2 * n = omega (arith, length_usual n, get_or_usual n b.1.0 (omega (arith, length_usual n, b.1.1)), b.1.1, b.1.2) in
        omega (arith, m.3.0, met_before m.0.point m.0.letter (inl (omega (arith, m.2))) i (λ e. m.3.1 (sym m.3.0 ∙ e))))

    module _ (hv : v < N) (hy : y < 2 * n) where
      greatest_more : greatest_met (earlier c (usual n) v (suc y)) ≡ max g (greatest_met (c v y ∷ []))
      greatest_more =
          ap greatest_met (before_more c n v y hy)
          ∙ greatest_met-append (earlier c (usual n) v y) (c v y ∷ [])
          ∙ ap (λ k. max k (greatest_met (c v y ∷ []))) (sym H.greatest)

      -- a cell that leads to no new point changes nothing
      pub met_old : is_new g (c v y) ≡ false → Met n N t v (suc y) g
      unfolding greatest_met
      met_old e = record { point = H.point; letter = omega arith; greatest = same; below = H.below }
        where
          same : g ≡ greatest_met (earlier c (usual n) v (suc y))
          same =
              sym (greatest_more
              ∙ by_cases (ℕ_discrete (c v y) absent) (λ m. rw (eq-eqb (c v y) absent m) (omega arith))
              (λ m. rw (ne_eqb (c v y) absent m) (omega (arith, new_not g (c v y) e m))))

      -- a new point is met first here
      pub first_here : is_new g (c v y) ≡ true → first_met c N (usual n) (c v y) ≡ some (spot v y)
      first_here e =
          let b = new_beyond g (c v y) e in met-here c n v y N hv hy b.0 (omega (arith, H.greatest, b.1))

      -- it is the next one
      pub next_here : is_new g (c v y) ≡ true → c v y ≤ suc g
      next_here e =
          omega (
            arith,
            H.greatest,
            R.canonical.next v y (c v y) (omega (arith, length_usual n)) (ap (c v) (get_or_usual n y hy), (new_beyond g (c v y) e).0),
          )

      -- and it is the greatest met then
      pub met_new : is_new g (c v y) ≡ true → Met n N t v (suc y) (c v y)
      unfolding greatest_met
      met_new e =
          let b = new_beyond g (c v y) e in
          record {
            point = H.point;
            letter = omega arith;
            greatest = sym (greatest_more ∙ rw (ne_eqb (c v y) absent b.0) (omega (arith, b.1)));
            below = R.canonical.within v y (c v y) (refl, b.0);
          }

  -- after the last cell of a row comes the first of the next
  pub met_row : {v y g : ℕ} → Met n N t v y g → v < N → 2 * n ≤ y → Met n N t (suc v) 0 g
  met_row {v} {y} {g} H h k =
      record {
        point = omega arith;
        letter = omega arith;
        greatest = H.greatest
            ∙ ap (λ z. greatest_met (earlier c (usual n) v z)) (let e : y ≡ length (usual n) = omega (arith, H.letter, length_usual n) in e)
            ∙ sym (ap greatest_met (earlier_row c (usual n) v));
        below = H.below;
      }
