-- What numbering asks of a lent table and what it leaves there, cited by this crate's contracts.
--   Inverse c   <-> what a letter leads to, its inverse leads back from
--   Roomed n R t <-> a table of n generators with room for R rows, whose cells keep the inverse law
--   NumberedIn  <-> the number of points met and the cells after `number`: the engine's `numbered` (engine, `Numbering`)
-- The letters are scanned in the usual order. Assumes nothing.
use Rattle.std.specs.Prelude.{◌≡◌, List, ℕ, ◌*◌, ◌≤◌, length}
use Rattle.theory.specs.Words.{inv}
use Rattle.theory.specs.Letters.{usual}
use Rattle.theory.specs.Tables.{absent, Cells, Leads, cell}
use Rattle.engine.specs.Work.{Holds}
use Rattle.engine.specs.Numbering.{numbered}

abbrev pub Inverse : Cells → Type 0
Inverse c = (v y x : ℕ) → Leads c v y x → Leads c x (inv y) v

pub record Roomed (n R : ℕ) (t : List ℕ) : Type 0 where
  pub inverse : Inverse (cell n R t)
  pub some : 1 ≤ n
  pub most : n ≤ 26
  pub fits : R ≤ absent
  pub lent : R * (2 * n) ≤ length t

pub record NumberedIn (n R : ℕ) (old : List ℕ) (r : ℕ) (after : List ℕ) : Type 0 where
  pub points : r ≡ (numbered (usual n) R (cell n R old)).met
  pub table : Holds n R old (numbered (usual n) R (cell n R old)).cells after
