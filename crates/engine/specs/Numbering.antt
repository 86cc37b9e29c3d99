-- Numbering in place: points get their final names in the order in which they are met, rows in order, letters in a given order.
--   Reached c        <-> each row with a cell is reached from the base
--   Two c            <-> each row with a cell, but the base's, has two letters
--   Lettered c ys    <-> only letters of ys have cells
--   Ready ys R c     <-> what numbering asks of the cells, in a room of R rows
--   Naming            == the cells, and how many points have been met: their names are final
--   named_at n v y     == one turn, at the cell of letter y at v: a point first met there takes the next name
--   named_to ys n v i  == a turn for each of the first i letters of row v
--   numbered ys R c   == the rows of met points in order, until none is left; R rows are enough
-- The loop's invariant is `NumberLaws`' `Numbers`. Assumes nothing.
use Rattle.std.specs.Prelude.{◌≡◌, cond, ◌||◌, List, ℕ, zero, suc, ◌≤◌, ◌<◌, eqb, ltb, length, get_or}
use Rattle.theory.specs.Words.{inv}
use Rattle.theory.specs.Letters.{StandsIn}
use Rattle.theory.specs.Tables.{absent, Cells, Leads, Reads}
use Rattle.engine.specs.Cells.{exchanged}

abbrev pub Reached : Cells → Type 0
Reached c = (v y : ℕ) → (c v y ≡ absent → ⊥) → (w : List ℕ) × Reads (Leads c) 0 w v

abbrev pub Two : Cells → Type 0
Two c =
    (v y : ℕ)
    → (v ≡ 0 → ⊥)
    → (c v y ≡ absent → ⊥)
    → (a : ℕ) × (b : ℕ) × (a ≡ b → ⊥) × (c v a ≡ absent → ⊥) × (c v b ≡ absent → ⊥)

abbrev pub Lettered : Cells → List ℕ → Type 0
Lettered c ys = (v y : ℕ) → (c v y ≡ absent → ⊥) → StandsIn ys y

pub record Ready (ys : List ℕ) (R : ℕ) (c : Cells) : Type 0 where
  -- the inverse law
  pub turn : (v y x : ℕ) → Leads c v y x → Leads c x (inv y) v
  pub reached : Reached c
  pub two : Two c
  pub lettered : Lettered c ys
  -- only rows of the room have cells, and no point is the absent mark
  pub rows : (v y : ℕ) → (c v y ≡ absent → ⊥) → v < R
  pub fits : R ≤ absent

pub record Naming : Type 0 where
  pub cells : Cells
  pub met : ℕ

unfoldable pub named_at : Naming → ℕ → ℕ → Naming
named_at n v y =
    cond (eqb (n.cells v y) absent || ltb (n.cells v y) n.met) n
    (record { cells = exchanged n.cells (n.cells v y) n.met; met = suc n.met })

unfoldable pub named_to : List ℕ → Naming → ℕ → ℕ → Naming
named_to ys n v zero = n
named_to ys n v (suc i) = named_at (named_to ys n v i) v (get_or ys i 0)

-- the rows from v on, at most d of them
unfoldable pub numbered_from : List ℕ → ℕ → ℕ → Naming → Naming
numbered_from ys zero v n = n
numbered_from ys (suc d) v n = cond (ltb v n.met) (numbered_from ys d (suc v) (named_to ys n v (length ys))) n

-- at first the base alone is met
abbrev pub first_naming : Cells → Naming
first_naming c = record { cells = c; met = 1 }

abbrev pub numbered : List ℕ → ℕ → Cells → Naming
numbered ys R c = numbered_from ys R 0 (first_naming c)
