-- What a lent table holds (`specs/Work`: `Holds`).
--   holds_first : it holds its own cells; holds_then : one holding after another
--   holds_set   : a store into a row is a `put`
--   holds_as    : the same cells by another name
--   holds_determined : the cells held and what stands behind them are the whole table
-- Assumes nothing.
use mathlib.Core.Path.{◌≡◌, refl, sym, ◌∙◌, ap}
use mathlib.Core.Bool.{cond, ◌&&◌}
use mathlib.Core.List.{List, ◌++◌}
use Prim.Native.Nat.{ℕ, ◌+◌, ◌*◌, ◌/◌, ◌%◌, ◌≤◌, ◌<◌}
use native.Mathlib.Nat.{div-add-mod', mod-lt, div-lt_iff_lt-mul}
use native.Mathlib.Omega.{arith}
use lib.Dec.{eqb}
use lib.Arith.{digits_lt}
use lib.ListN.{length, get_or, set, take, take-append-drop, length-set}
use lib.Seq.{drop-set-lt, ext_get_or, get_or-take, length-take-le}
use Rattle.theory.specs.Tables.{Cells, cell}
use Rattle.theory.proofs.TableLaws.{cell_here}
use Rattle.engine.specs.Cells.{put}
use Rattle.engine.specs.Work.{Holds}
use Rattle.engine.proofs.WorkLaws.{cell_set}

pub holds_first : (n R : ℕ) (t : List ℕ) → Holds n R t (cell n R t) t
holds_first n R t = record { same = refl; cells = λ v y. refl; rest = refl }

pub holds_then : {n R : ℕ} {old mid after : List ℕ} {c d : Cells} → Holds n R old c mid → Holds n R mid d after → Holds n R old d after
holds_then h k = record { same = k.same ∙ h.same; cells = k.cells; rest = k.rest ∙ h.rest }

pub holds_as : {n R : ℕ} {old after : List ℕ} {c d : Cells} → ((v y : ℕ) → c v y ≡ d v y) → Holds n R old c after → Holds n R old d after
holds_as e h = record { same = h.same; cells = λ v y. h.cells v y ∙ e v y; rest = h.rest }

-- a store at letter y of row v
pub holds_set : {n R : ℕ} {old t : List ℕ} {c : Cells} → Holds n R old c t → (v y x : ℕ) → v < R → y < 2 * n
    → R * (2 * n) ≤ length old → Holds n R old (put c v y x) (set t (v * (2 * n) + y) x)
unfolding put
holds_set {n} {R} {old} {t} {c} h v y x hv hy room =
    record {
      same = simp length-set h.same;
      cells = λ u z. cell_set n R t v y x hv hy (omega (arith, h.same)) u z ∙ put_as u z;
      rest = drop-set-lt (R * (2 * n)) t (v * (2 * n) + y) x (digits_lt hv hy) ∙ h.rest;
    }
  where
    put_as : (u z : ℕ) → put (cell n R t) v y x u z ≡ put c v y x u z
    put_as u z = ap (cond (eqb u v && eqb z y) x) (h.cells u z)

module _ {n R : ℕ} {old : List ℕ} (some : 1 ≤ n) (lent : R * (2 * n) ≤ length old) where
  -- each cell of the room is what it holds
  held_at : {c : Cells} {t : List ℕ} → Holds n R old c t → (i : ℕ) → i < R * (2 * n) → get_or t i 0 ≡ c (i / (2 * n)) (i % (2 * n))
  held_at {c} {t} h i l =
      let w : 0 < 2 * n = omega (arith, some) in
      ap (λ j. get_or t j 0) (sym (div-add-mod' i (2 * n)))
      ∙ cell_here n R t (i / (2 * n)) (i % (2 * n)) ((div-lt_iff_lt-mul w).1 l) (mod-lt i w) (omega (arith, lent, h.same))
      ∙ h.cells (i / (2 * n)) (i % (2 * n))

  pub holds_determined : {c : Cells} {a b : List ℕ} → Holds n R old c a → Holds n R old c b → a ≡ b
  holds_determined {c} {a} {b} h k = sym (take-append-drop w a) ∙ both front (h.rest ∙ sym k.rest) ∙ take-append-drop w b
    where
      w : ℕ
      w = R * (2 * n)

      both : {p q r s : List ℕ} → p ≡ q → r ≡ s → p ++ r ≡ q ++ s
      both e d = rw (e, d)

      size : {t : List ℕ} → Holds n R old c t → length (take w t) ≡ w
      size {t} g = length-take-le w t (omega (arith, lent, g.same))

      front : take w a ≡ take w b
      front =
          ext_get_or 0 (take w a) (take w b) (size h ∙ sym (size k))
          (λ i l. let g : i < w = omega (arith, size h) in
          get_or-take w a i 0 g ∙ held_at h i g ∙ sym (get_or-take w b i 0 g ∙ held_at k i g))
