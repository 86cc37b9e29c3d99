-- Graphs as lists of edges, and the start graph (document 01, 'Folding'; 004, definitions 2.3 to 2.6).
--   Edge               == a source, a generator number from 1, a target
--   Graph              == a base, the points, the edges in a list: two edges at different places may be equal
--   edge_of v y x       == the edge that letter y reads from v to x; a capital reads it from its target
--   Along es v y x    <-> some edge of es lets y lead from v to x
--   start_graph ws      == a base 0 and, for each word not empty after reduction, a circle at the base that reads it
--   reduced_length ws   == S, their letters after reduction; non_empty_words ws == m, those that are not empty then
-- Points are numbered from the base 0 along the reduced words in list order, edges stand in the order in which the words
-- read them. Assumes nothing.
use Rattle.std.specs.Prelude.{Bool, cond, ℕ, zero, suc, ◌+◌, ◌-◌, ◌/◌, ◌%◌, eqb, length}
use mathlib.Core.List.{List, [], ◌∷◌, ◌++◌, Memᴰ}
use Rattle.theory.specs.Words.{reduced}
use Rattle.theory.specs.Letters.{up_to}

pub record Edge : Type 0 where
  pub source : ℕ
  pub generator : ℕ
  pub target : ℕ

pub record Graph : Type 0 where
  pub base : ℕ
  pub points : List ℕ
  pub edges : List Edge

-- y is a lower-case letter: it has an even number
abbrev pub is_lower : ℕ → Bool
is_lower y = eqb (y % 2) 0

-- the number of the generator that y, or its inverse, is
abbrev pub generator_of : ℕ → ℕ
generator_of y = y / 2 + 1

unfoldable pub edge_of : ℕ → ℕ → ℕ → Edge
edge_of v y x =
    cond (is_lower y) (record { source = v; generator = generator_of y; target = x })
    (record { source = x; generator = generator_of y; target = v })

abbrev pub Along : List Edge → ℕ → ℕ → ℕ → Type 0
Along es v y x = Memᴰ (edge_of v y x) es

-- the edges of a circle that reads a word from v back to the base, with new points from k on
unfoldable pub circle : ℕ → ℕ → List ℕ → List Edge
circle v k [] = []
circle v k (y ∷ []) = edge_of v y 0 ∷ []
circle v k (y ∷ (z ∷ w)) = edge_of v y k ∷ circle k (suc k) (z ∷ w)

-- the number of new points that a circle has: one less than its letters
abbrev pub new_points : List ℕ → ℕ
new_points w = length w - 1

-- the circles of the words, with new points from k on
unfoldable pub circles : ℕ → List (List ℕ) → List Edge
circles k [] = []
circles k (w ∷ ws) = circle 0 k (reduced w) ++ circles (k + new_points (reduced w)) ws

unfoldable pub start_points : List (List ℕ) → ℕ
start_points [] = 1
start_points (w ∷ ws) = new_points (reduced w) + start_points ws

unfoldable pub start_graph : List (List ℕ) → Graph
start_graph ws = record { base = 0; points = up_to (start_points ws); edges = circles 1 ws }

-- S, the letters of the words after reduction
unfoldable pub reduced_length : List (List ℕ) → ℕ
reduced_length [] = zero
reduced_length (w ∷ ws) = length (reduced w) + reduced_length ws

-- 1 for a word with letters, 0 for the empty word
abbrev pub one_if_any : List ℕ → ℕ
one_if_any [] = 0
one_if_any (y ∷ w) = 1

-- m, the words that are not empty after reduction
unfoldable pub non_empty_words : List (List ℕ) → ℕ
non_empty_words [] = zero
non_empty_words (w ∷ ws) = one_if_any (reduced w) + non_empty_words ws
