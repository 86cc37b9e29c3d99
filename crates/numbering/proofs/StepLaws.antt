-- Steps on lent cells (`specs/Steps`): where a cell stands, and one step after another.
--   holds_path, holds_step : cells held are those of the table, so a step from there is one from what it holds
--   inside_then, roomed_then : a place stays inside, and the room a room, after a step
--   cell_point : by the inverse law a cell is absent or a point of the room; point_as : so is a copy of one that is
-- Assumes nothing.
use mathlib.Core.Path.{◌≡◌, refl, sym, subst, fun_ext}
use mathlib.Core.List.{List}
use Prim.Native.Nat.{ℕ, ◌*◌, ◌<◌}
use native.Mathlib.Omega.{arith}
use Rattle.theory.specs.Words.{inv}
use Rattle.theory.specs.Tables.{Cells, cell}
use Rattle.theory.proofs.TableLaws.{cell_bounded}
use Rattle.theory.proofs.OneTable.{leads_here}
use Rattle.engine.specs.Work.{Holds}
use Rattle.engine.proofs.HoldLaws.{holds_then}
use Rattle.rooms.specs.declared.Room.{Room}
use Rattle.links.specs.Links.{InTable}
use Rattle.links.proofs.LinkLaws.{other_in}
use Rattle.numbering.specs.Numbered.{Inverse, Roomed}
use Rattle.numbering.specs.Steps.{IsCell}

-- ── Where a cell stands ──

module _ {r : Room} {t : List ℕ} {v y : ℕ} (i : InTable r t v y) where
  pub inside_then : {c : Cells} {mid : List ℕ} → Holds r.n r.rows t c mid → InTable r mid v y
  inside_then h = other_in i h.same v y i.row i.letter

-- ── One step after another ──

module _ {n R : ℕ} {old mid : List ℕ} {c : Cells} (h : Holds n R old c mid) where
  -- cells held are those of the table
  pub holds_path : cell n R mid ≡ c
  holds_path = fun_ext (λ v. fun_ext (λ y. h.cells v y))

  -- a step from the table is one from what it holds
  pub holds_step : {after : List ℕ} (f : Cells → Cells) → Holds n R mid (f (cell n R mid)) after → Holds n R old (f c) after
  holds_step {after} f k = holds_then h (subst (λ d. Holds n R mid (f d) after) holds_path k)

  -- the room stays, where the cells held keep the inverse law
  pub roomed_then : Roomed n R old → Inverse c → Roomed n R mid
  roomed_then r f =
      record {
        inverse = subst Inverse (sym holds_path) f;
        some = r.some;
        most = r.most;
        fits = r.fits;
        lent = omega (arith, r.lent, h.same);
      }

-- ── Under the inverse law ──

-- a copy of a cell
pub point_as : {R u x : ℕ} → u ≡ x → IsCell R x → IsCell R u
point_as {R} e h = subst (IsCell R) (sym e) h

module _ {n R : ℕ} {t : List ℕ} (r : Roomed n R t) where
  pub roomed_inside : {m v y : ℕ} → v < R → y < 2 * n → InTable (record { n = n; rows = R; made = m }) t v y
  roomed_inside a b = record { most = r.most; row = a; letter = b; lent = r.lent }

  -- a cell is absent or a point of the room
  pub cell_point : (v y : ℕ) → IsCell R (cell n R t v y)
  cell_point v y n' =
      let x = cell n R t v y in
      (cell_bounded n R t x (inv y) (leads_here (cell n R t) x (inv y) v (r.inverse v y x (refl, n')))).0
