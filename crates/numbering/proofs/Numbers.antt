-- What numbering tells its callers (engine, `NumberedLaws`), of an outcome of `number` on a table that is ready.
--   number_canonical : the table left is canonical
--   number_bounded   : no row but those of the points counted has a cell; number_base, number_fits : they are one or more, and in the room
--   number_exact     : it accepts the members that the table handed in accepted
-- Assumes nothing.
use mathlib.Core.Path.{sym, subst, subst₂}
use mathlib.Core.List.{List}
use Prim.Native.Nat.{ℕ, ◌≤◌, ◌<◌}
use Rattle.theory.specs.Letters.{usual}
use Rattle.theory.specs.Tables.{cell}
use Rattle.theory.specs.Canonical.{Canonical}
use Rattle.theory.specs.Subgroups.{AcceptsExactly}
use Rattle.theory.proofs.TableLaws.{Bounded}
use Rattle.engine.specs.Numbering.{Ready, numbered}
use Rattle.engine.proofs.NumberLaws.{Numbers}
use Rattle.engine.proofs.NumberedLaws.{numbers_bounded, numbers_end, numbers_base, numbers_exact, numbered_numbers}
use Rattle.numbering.specs.Numbered.{NumberedIn}
use Rattle.numbering.proofs.StepLaws.{holds_path}

module _ {n R : ℕ} {old : List ℕ} {r : ℕ} {after : List ℕ} (ready : Ready (usual n) R (cell n R old)) (some : 1 ≤ R)
    (h : NumberedIn n R old r after) where
  end : Numbers (usual n) (cell n R old) R (numbered (usual n) R (cell n R old)).met 0 (numbered (usual n) R (cell n R old))
  end = numbered_numbers ready some

  pub number_canonical : Canonical r (usual n) (cell n R after)
  number_canonical =
      subst₂ (λ k c. Canonical k (usual n) c) (sym h.points) (sym (holds_path h.table)) (numbers_end end)

  pub number_bounded : Bounded (cell n R after) r (usual n)
  number_bounded =
      subst₂ (λ k c. Bounded c k (usual n)) (sym h.points) (sym (holds_path h.table)) (numbers_bounded end)

  pub number_base : 0 < r
  number_base = subst (λ k. 0 < k) (sym h.points) (numbers_base end)

  pub number_fits : r ≤ R
  number_fits = subst (λ k. k ≤ R) (sym h.points) end.room

  pub number_exact : (ws : List (List ℕ)) → AcceptsExactly (cell n R old) ws → AcceptsExactly (cell n R after) ws
  number_exact ws a = subst (λ c. AcceptsExactly c ws) (sym (holds_path h.table)) (numbers_exact end ws a)
