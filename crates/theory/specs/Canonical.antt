-- The canonical rules (document 01, 'The table') and the lowest cell that breaks one.
--   earlier c ys v i   == the cells that come before place i of row v: rows in order, letters in the order ys
--   greatest_met cells  == the greatest point met in some cells; the base counts as met
--   Canonical N ys c  <-> the five rules, for N points and letters scanned in the order ys
--   Broken N ys c v i <-> the cell at place i of row v is a cell of a broken rule
--   faulty_cell N ys c  == the lowest cell of any broken rule, in scan order, as its position in the table
-- A broken rule of a whole row is placed at the row's first cell. The letters to scan are an argument: `usual n` for document 01.
-- `proofs/CanonicalLaws` joins the rules and the faulty cell. Assumes nothing.
use Rattle.std.specs.Prelude.{◌≡◌, ◌⊎◌, Bool, true, false, cond, not, ◌&&◌, ◌||◌, List, [], ◌∷◌, ◌++◌, map, ℕ, zero, suc, ◌+◌, ◌*◌, ◌≤◌, ◌<◌, max, eqb, ltb, leb, length, get_or, take}
use Rattle.std.proofs.Math.Option.{Option, none, some}
use Rattle.theory.specs.Words.{inv}
use Rattle.theory.specs.Letters.{usual}
use Rattle.theory.specs.Tables.{absent, Cells, cell, Leads}

-- the cells of row v, in scan order
unfoldable pub row_of : Cells → List ℕ → ℕ → List ℕ
row_of c ys v = map (c v) ys

-- the cells of all rows before row v
unfoldable pub rows_before : Cells → List ℕ → ℕ → List ℕ
rows_before c ys zero = []
rows_before c ys (suc v) = rows_before c ys v ++ row_of c ys v

unfoldable pub earlier : Cells → List ℕ → ℕ → ℕ → List ℕ
earlier c ys v i = rows_before c ys v ++ take i (row_of c ys v)

unfoldable pub greatest_met : List ℕ → ℕ
greatest_met [] = zero
greatest_met (x ∷ xs) = cond (eqb x absent) (greatest_met xs) (max x (greatest_met xs))

pub record Canonical (N : ℕ) (ys : List ℕ) (c : Cells) : Type 0 where
  -- each cell is absent or below N
  pub within : (v y x : ℕ) → Leads c v y x → x < N
  -- if y leads from v to x, the inverse of y leads from x to v
  pub inverse : (v y x : ℕ) → Leads c v y x → Leads c x (inv y) v
  -- a cell not absent is at most one more than the greatest point met in earlier cells
  pub next : (v i x : ℕ) → i < length ys → Leads c v (get_or ys i 0) x → x ≤ suc (greatest_met (earlier c ys v i))
  -- each point v ≥ 1 is met in a cell before row v
  pub early : (v : ℕ) → 1 ≤ v → v < N → (u : ℕ) × (y : ℕ) × (u < v) × Leads c u y v
  -- each point v ≥ 1 has at least two cells that are not absent
  pub two : (v : ℕ) → 1 ≤ v → v < N
      → (y : ℕ) × (z : ℕ) × (y ≡ z → ⊥) × (c v y ≡ absent → ⊥) × (c v z ≡ absent → ⊥)

-- the cell at place i of row v breaks one of the first three rules
abbrev pub BrokenCell : ℕ → List ℕ → Cells → ℕ → ℕ → Type 0
BrokenCell N ys c v i =
    (x : ℕ)
    × Leads c v (get_or ys i 0) x
    × ((N ≤ x) ⊎ ((Leads c x (inv (get_or ys i 0)) v → ⊥) ⊎ (suc (greatest_met (earlier c ys v i)) < x)))

-- row v breaks one of the last two rules
abbrev pub BrokenRow : Cells → ℕ → Type 0
BrokenRow c v =
    (1 ≤ v)
    × (((u y : ℕ) → u < v → Leads c u y v → ⊥)
    ⊎ ((y z : ℕ) → (y ≡ z → ⊥) → (c v y ≡ absent → ⊥) → (c v z ≡ absent → ⊥) → ⊥))

-- place i of row v is a cell of a broken rule: the last two are placed at the first cell of the row
abbrev pub Broken : ℕ → List ℕ → Cells → ℕ → ℕ → Type 0
Broken N ys c v i = BrokenCell N ys c v i ⊎ ((i ≡ 0) × BrokenRow c v)

-- the cell of letter y at v is the lowest cell of a broken rule, by position in the table
pub record LowestCell (n N : ℕ) (t : List ℕ) (v y : ℕ) : Type 0 where
  pub point_in : v < N
  pub letter_in : y < 2 * n
  pub broken : Broken N (usual n) (cell n N t) v y
  pub none_below : (u z : ℕ) → z < 2 * n → u * (2 * n) + z < v * (2 * n) + y → Broken N (usual n) (cell n N t) u z → ⊥

-- the number of cells that are not absent
unfoldable pub present : List ℕ → ℕ
present [] = zero
present (x ∷ xs) = cond (eqb x absent) (present xs) (suc (present xs))

-- x stands in a list
unfoldable pub is_in : ℕ → List ℕ → Bool
is_in x [] = false
is_in x (a ∷ l) = eqb a x || is_in x l

-- the cell of letter y at v, before which the greatest point met was g, breaks one of the first three rules
unfoldable pub breaks_cell : ℕ → Cells → ℕ → ℕ → ℕ → Bool
breaks_cell N c v y g =
    not (eqb (c v y) absent)
    && (leb N (c v y) || (not (eqb (c (c v y) (inv y)) v && not (eqb v absent)) || ltb (suc g) (c v y)))

-- row v breaks one of the last two rules
unfoldable pub breaks_row : List ℕ → Cells → ℕ → Bool
breaks_row ys c v = ltb 0 v && (not (is_in v (rows_before c ys v)) || ltb (present (row_of c ys v)) 2)

-- place i of row v is a faulty cell
unfoldable pub is_faulty : ℕ → List ℕ → Cells → ℕ → ℕ → Bool
is_faulty N ys c v i =
    (eqb i 0 && breaks_row ys c v) || breaks_cell N c v (get_or ys i 0) (greatest_met (earlier c ys v i))

-- what was found below k, or k itself where it passes
abbrev pub or_this : ℕ → Option ℕ → Bool → Option ℕ
or_this k (some i) b = some i
or_this k none true = some k
or_this k none false = none

-- the least number below k that passes the test
unfoldable pub least : (ℕ → Bool) → ℕ → Option ℕ
least f zero = none
least f (suc k) = or_this k (least f k) (f k)

-- a row and a place in it
pub record Place : Type 0 where
  pub row : ℕ
  pub index : ℕ

abbrev pub is_some : Option ℕ → Bool
is_some none = false
is_some (some i) = true

-- the place of row v at an index, if there is one
abbrev pub place_at : ℕ → Option ℕ → Option Place
place_at v none = none
place_at v (some i) = some (record { row = v; index = i })

-- the first place of the first row that has one
abbrev pub in_row : (ℕ → Option ℕ) → Option ℕ → Option Place
in_row row none = none
in_row row (some v) = place_at v (row v)

-- the first place among N rows of w cells that passes the test, rows in order
unfoldable pub first_place : (ℕ → ℕ → Bool) → ℕ → ℕ → Option Place
first_place f N w = in_row (λ v. least (f v) w) (least (λ v. is_some (least (f v) w)) N)

-- where a place of the scan stands in the table
abbrev pub position_of : List ℕ → Option Place → Option ℕ
position_of ys none = none
position_of ys (some p) = some (p.row * length ys + get_or ys p.index 0)

unfoldable pub faulty_cell : ℕ → List ℕ → Cells → Option ℕ
faulty_cell N ys c = position_of ys (first_place (is_faulty N ys c) N (length ys))
