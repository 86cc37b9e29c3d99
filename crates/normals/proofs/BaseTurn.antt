-- The letters at the base, as `passes` and `is_normal` ask them, on plain values.
--   passes_absent, passes_base_lem : a letter passes that is absent at the base, or leads back to it
--   Asked n N t y <-> the letters before y pass at the base
--   asked_first, asked_turn, asked_done, asked_no : so it is at the first letter, after one that passes; and what holds at the ends
-- Assumes nothing.
use mathlib.Core.Path.{◌≡◌, sym, ◌∙◌, ap, subst}
use mathlib.Core.Logic.{by_cases}
use mathlib.Core.Bool.{Bool, true, false}
use mathlib.Core.List.{List}
use Prim.Native.Nat.{ℕ, ◌+◌, ◌*◌, ◌≤◌, ◌<◌}
use native.Mathlib.Decide.{ℕ_discrete}
use native.Mathlib.Omega.{arith}
use lib.ListN.{length}
use borrow.Author.Tests.{eq-eqb, ne_eqb}
use Rattle.theory.specs.Letters.{usual}
use Rattle.theory.specs.Tables.{absent, Cells, cell}
use Rattle.theory.specs.Basis.{leads_back, is_normal}
use Rattle.theory.proofs.PlaceLaws.{passes_fails, fails}
use Rattle.theory.proofs.TableLaws.{length_usual, get_or_usual}
use Rattle.theory.proofs.PathLaws.{Setting}
use Rattle.cells.specs.Filled.{filled}
use Rattle.normals.specs.Maps.{passes_base}
use Rattle.normals.proofs.BackLaws.{all_at, all_each, maps_back}
use Rattle.normals.proofs.MapTurn.{cleared_size, cleared_again}

module _ (c : Cells) (N : ℕ) (ys : List ℕ) (y : ℕ) {x : ℕ} (q : x ≡ c 0 y) where
  pub passes_absent : x ≡ absent → true ≡ passes_base c N ys y
  passes_absent e = sym (rw (eq-eqb (c 0 y) absent (sym q ∙ e)))

  -- every basis word leads from the base back to the base
  pub passes_base_lem : Setting c N ys → x ≡ 0 → true ≡ passes_base c N ys y
  passes_base_lem S e =
      let z : c 0 y ≡ 0 = sym q ∙ e in
      sym (rw (ne_eqb (c 0 y) absent (λ h. omega arith)) (subst (λ p. leads_back c N ys p ≡ true) (sym z) (maps_back S (λ v. v) (λ v y x l. l))))

pub record Asked (n N : ℕ) (t : List ℕ) (y : ℕ) : Type 0 where
  pub letter : y ≤ 2 * n
  pub passed : (j : ℕ) → j < y → passes_base (cell n N t) N (usual n) j ≡ true

module _ (n N : ℕ) (t : List ℕ) where
  abbrev c : Cells
  c = cell n N t

  pub asked_first : Asked n N t 0
  asked_first = record { letter = omega arith; passed = λ j h. absurd (omega arith) }

  module _ {y : ℕ} (A : Asked n N t y) where
    pub asked_turn : {b : Bool} → y < 2 * n → b ≡ passes_base (cell n N t) N (usual n) y → b ≡ true → Asked n N t (y + 1)
    asked_turn h e f =
        record {
          letter = omega arith;
          passed = λ j k. by_cases (ℕ_discrete j y) (λ z. ap (passes_base c N (usual n)) z ∙ sym e ∙ f) (λ z. A.passed j (omega arith));
        }

    pub asked_done : 2 * n ≤ y → true ≡ is_normal (cell n N t) N (usual n)
    unfolding is_normal
    asked_done h =
        sym (all_each (passes_base c N (usual n)) (usual n) 0
        (λ i k. let z : i < 2 * n = omega (arith, length_usual n) in
        ap (passes_base c N (usual n)) (get_or_usual n i z) ∙ A.passed i (omega arith)))

  pub asked_no : {y : ℕ} {b : Bool} → y < 2 * n → b ≡ passes_base (cell n N t) N (usual n) y → b ≡ false → false ≡ is_normal (cell n N t) N (usual n)
  unfolding is_normal
  asked_no {y} h e f =
      sym (fails (is_normal c N (usual n))
      (λ a. passes_fails
      (ap (passes_base c N (usual n)) (sym (get_or_usual n y h)) ∙ all_at (passes_base c N (usual n)) (usual n) y 0 a (omega (arith, length_usual n)))
      (sym e ∙ f)))

-- ── The work cells ──

module _ (N : ℕ) (old : List ℕ) (room : 4 * N ≤ length old) {work : List ℕ} (e : work ≡ filled (4 * N) 0 old) where
  pub all_cleared_size : length work ≡ length old
  all_cleared_size = cleared_size (4 * N) old room e

  -- the images are clear as well
  pub images_clear : filled N 0 work ≡ work
  images_clear =
      ap (filled N 0) parts ∙ cleared_again N (3 * N) old ∙ sym parts
    where
      parts : work ≡ filled (N + 3 * N) 0 old
      parts = e ∙ ap (λ k. filled k 0 old) (let z : 4 * N ≡ N + 3 * N = omega arith in z)
