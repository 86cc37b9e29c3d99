-- The saved file (document 01, 'The saved file') and the causes that only files have.
--   number_bytes x      == x in groups of seven bits, lowest first, top bit set on all but the last byte: the shortest form
--   NumberAt file p x <-> the number x, at most 4,294,967,295, is written from byte p on
--   table_file n N t    == kind 1: 1, n, N, then N × 2n cells in table order, 0 for absent, otherwise point + 1
--   list_file n ws      == kind 2: 2, n, number of words, then each as its length and letter numbers
--   Cause10 .. Cause12 <-> that cause applies at byte p
-- A number that starts is read if it is the shortest form of one that is not too big; anything else is cut, too long or too big,
-- which are one cause. Assumes nothing.
use Rattle.std.specs.Prelude.{◌≡◌, cond, List, [], ◌∷◌, ◌++◌, map, ℕ, zero, suc, ◌+◌, ◌*◌, ◌/◌, ◌%◌, ◌≤◌, ◌<◌, eqb, ltb, length, take, drop}
use Rattle.theory.specs.Tables.{absent}

-- the greatest number that a file may hold
abbrev pub number_limit : ℕ
number_limit = 4294967295

-- the groups of x, at most d of them
unfoldable pub groups : ℕ → ℕ → List ℕ
groups zero x = []
groups (suc d) x = cond (ltb x 128) (x ∷ []) ((x % 128 + 128) ∷ groups d (x / 128))

-- five groups hold every number up to the limit
unfoldable pub number_bytes : ℕ → List ℕ
number_bytes x = groups 5 x

unfoldable pub numbers_bytes : List ℕ → List ℕ
numbers_bytes [] = []
numbers_bytes (x ∷ xs) = number_bytes x ++ numbers_bytes xs

pub record NumberAt (file : List ℕ) (p x : ℕ) : Type 0 where
  pub fits : x ≤ number_limit
  pub rest : List ℕ
  pub written : drop p file ≡ number_bytes x ++ rest

-- a cell's number: 0 for absent, otherwise point + 1
unfoldable pub cell_number : ℕ → ℕ
cell_number x = cond (eqb x absent) 0 (x + 1)

unfoldable pub table_file : ℕ → ℕ → List ℕ → List ℕ
table_file n N t = numbers_bytes (1 ∷ n ∷ N ∷ map cell_number (take (N * (2 * n)) t))

-- the numbers of the words: each its length, then its letters
unfoldable pub word_numbers : List (List ℕ) → List ℕ
word_numbers [] = []
word_numbers (w ∷ ws) = length w ∷ (w ++ word_numbers ws)

unfoldable pub list_file : ℕ → List (List ℕ) → List ℕ
list_file n ws = numbers_bytes (2 ∷ n ∷ length ws ∷ word_numbers ws)

-- a number in the file is cut, too long or too big, at its first byte; at the file's length if none is left
abbrev pub Cause10 : List ℕ → ℕ → Type 0
Cause10 file p = (p ≤ length file) × ((x : ℕ) → NumberAt file p x → ⊥)

-- the kind is not 1 or 2
abbrev pub Cause11 : ℕ → ℕ → Type 0
Cause11 kind p = (p ≡ 0) × (kind ≡ 1 → ⊥) × (kind ≡ 2 → ⊥)

-- bytes stand after the end of the file's numbers, at the first of them
abbrev pub Cause12 : List ℕ → ℕ → ℕ → Type 0
Cause12 file end p = (p ≡ end) × (end < length file)
