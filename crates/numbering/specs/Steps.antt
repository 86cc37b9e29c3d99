-- What the steps of numbering ask of a lent table and what they leave there, cited by the functions inside.
--   IsCell R x <-> the cell x is absent or a point of the room
--   ends_traded == rows k and p have traded their cells of letter y, which held a and b, under the new names
--   Tradable   <-> the rows k and p, and what their cells of letter y hold, lie in the room
--   naming_of   == the cells of a table with so many points met
--   Scanned    <-> the table is ready to be numbered on, with so many points met, the base among them
--   NamedIn    <-> the number of points met and the cells after a step: those of a naming (engine, `Numbering`)
-- Assumes nothing.
use Rattle.std.specs.Prelude.{◌≡◌, List, ℕ, ◌≤◌, ◌<◌}
use Rattle.theory.specs.Letters.{usual}
use Rattle.theory.specs.Tables.{absent, Cells, cell}
use Rattle.engine.specs.Cells.{put, transposed}
use Rattle.engine.specs.Work.{Holds}
use Rattle.engine.specs.Numbering.{Ready, Naming}
use Rattle.rooms.specs.declared.Room.{Room}
use Rattle.links.specs.Links.{InTable}
use Rattle.numbering.specs.Numbered.{Roomed}

abbrev pub IsCell : ℕ → ℕ → Type 0
IsCell R x = (x ≡ absent → ⊥) → x < R

abbrev pub ends_traded : Cells → ℕ → ℕ → ℕ → ℕ → ℕ → Cells
ends_traded c k p y a b = put (put c k y (transposed k p b)) p y (transposed k p a)

pub record Tradable (r : Room) (t : List ℕ) (k p y : ℕ) : Type 0 where
  pub first : InTable r t k y
  pub second : InTable r t p y
  pub near : IsCell r.rows (cell r.n r.rows t k y)
  pub far : IsCell r.rows (cell r.n r.rows t p y)

abbrev pub naming_of : ℕ → ℕ → List ℕ → ℕ → Naming
naming_of n R t met = record { cells = cell n R t; met = met }

pub record Scanned (n R : ℕ) (t : List ℕ) (met : ℕ) : Type 0 where
  pub ready : Ready (usual n) R (cell n R t)
  pub roomed : Roomed n R t
  pub base : 1 ≤ met
  pub room : met ≤ R

pub record NamedIn (n R : ℕ) (old : List ℕ) (m : Naming) (r : ℕ) (after : List ℕ) : Type 0 where
  pub points : r ≡ m.met
  pub table : Holds n R old m.cells after
