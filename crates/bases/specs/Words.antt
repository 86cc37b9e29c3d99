-- The basis words of some spots of a table, their text and its size, cited by the parts of `basis`.
--   is_outside c N ys s    == the spot s is an edge that no path uses
--   basis_in c N ys ss     == the basis words of the edges among the spots ss that no path uses
--   text_of c N ys ss      == their text, each word with its line end
--   size_in, grown   == how many they are and how many bytes; a size and that of more spots
--   Small size k         <-> a size as k rows may have it, so that no sum wraps
-- Assumes nothing.
use Rattle.std.specs.Prelude.{Bool, not, ◌&&◌, List, map, ℕ, ◌+◌, ◌*◌, ◌≤◌, length}
use Rattle.theory.specs.Tables.{Cells}
use Rattle.theory.specs.Basis.{Spot, is_path_edge, those, is_edge, basis_word}
use Rattle.theory.specs.Texts.{list_text}
use Rattle.lists.specs.declared.TextSize.{TextSize}

unfoldable pub is_outside : Cells → ℕ → List ℕ → Spot → Bool
is_outside c N ys s = is_edge c s && not (is_path_edge c N ys s.point s.letter)

unfoldable pub basis_in : Cells → ℕ → List ℕ → List Spot → List (List ℕ)
basis_in c N ys ss = map (basis_word c N ys) (those (is_outside c N ys) ss)

unfoldable pub text_of : Cells → ℕ → List ℕ → List Spot → List ℕ
text_of c N ys ss = list_text (basis_in c N ys ss)

unfoldable pub size_in : Cells → ℕ → List ℕ → List Spot → TextSize
size_in c N ys ss = record { words = length (basis_in c N ys ss); bytes = length (text_of c N ys ss) }

abbrev pub grown : TextSize → TextSize → TextSize
grown a b = record { words = a.words + b.words; bytes = a.bytes + b.bytes }

-- a row has at most 52 cells, and a line at most 2 × 1,048,577 bytes
abbrev pub Small : TextSize → ℕ → Type 0
Small size k = (size.words ≤ 52 * k) × (size.bytes ≤ 109052008 * k)
