-- What is printed of a list, its table and queries, none of them refused (document 01, 'The printing program').
--   answer_of c N ys q      == the expression of a query, or none for a word outside
--   merges_of, closes_of     == merging folds: start points less final points; closing folds: m less the rank
--   line items             == the items, single spaces between them, ended by byte 10
--   printed n N t text qs  == the lines, for the table t of N points of the list text, and the queries qs as written
-- Assumes nothing.
use Rattle.std.specs.Prelude.{Bool, cond, List, [], ◌∷◌, ◌++◌, map, ℕ, suc, ◌-◌, ℤ, pos, negsuc, length}
use Rattle.std.proofs.Math.Option.{Option, none, some}
use Prim.Native.String.{String}
use Rattle.theory.specs.Letters.{byte_of, letter_of, line_end, usual, words_of}
use Rattle.theory.specs.Texts.{bytes}
use Rattle.theory.specs.Tables.{Cells, cell, is_accepted}
use Rattle.theory.specs.Graphs.{start_graph, non_empty_words}
use Rattle.theory.specs.Basis.{Index, finite, infinite, edges_of, basis_of, expression_of, rank_of, index_of, is_normal}
use Rattle.decimals.specs.Decimal.{decimal_of}

abbrev pub answer_of : Cells → ℕ → List ℕ → List ℕ → Option (List ℤ)
answer_of c N ys q = cond (is_accepted c q) (some (expression_of c N ys q)) none

abbrev pub merges_of : List (List ℕ) → ℕ → ℕ
merges_of ws N = length (start_graph ws).points - N

abbrev pub closes_of : List (List ℕ) → ℕ → ℕ
closes_of ws rank = non_empty_words ws - rank

-- ── Items ──

abbrev pub yes_or_no : Bool → List ℕ
yes_or_no b = cond b (bytes "yes") (bytes "no")

abbrev pub index_item : Index → List ℕ
index_item (finite k) = decimal_of k
index_item infinite = bytes "infinite"

abbrev pub signed_item : ℤ → List ℕ
signed_item (pos k) = decimal_of k
signed_item (negsuc k) = bytes "-" ++ decimal_of (suc k)

abbrev pub answer_items : Option (List ℤ) → List (List ℕ)
answer_items none = bytes "no" ∷ []
answer_items (some ks) = bytes "yes" ∷ map signed_item ks

-- ── Lines ──

abbrev pub space : ℕ
space = 32

unfoldable pub line : List (List ℕ) → List ℕ
line [] = line_end ∷ []
line (w ∷ []) = w ++ line_end ∷ []
line (w ∷ (x ∷ ws)) = w ++ space ∷ line (x ∷ ws)

-- a name and its numbers
abbrev pub figure_line : String → List ℕ → List ℕ
figure_line name ks = line (bytes name ∷ map decimal_of ks)

unfoldable pub basis_lines : List (List ℕ) → List ℕ
basis_lines [] = []
basis_lines (w ∷ ws) = line (bytes "basis" ∷ map byte_of w ∷ []) ++ basis_lines ws

-- each query as written, yes or no, and its expression
unfoldable pub query_lines : Cells → ℕ → List ℕ → List (List ℕ) → List ℕ
query_lines c N ys [] = []
query_lines c N ys (q ∷ qs) = line (q ∷ answer_items (answer_of c N ys (map letter_of q))) ++ query_lines c N ys qs

unfoldable pub printed : ℕ → ℕ → List ℕ → List ℕ → List (List ℕ) → List ℕ
printed n N t text qs =
    let ws = words_of text in
    let ys = usual n in
    let c = cell n N t in
    figure_line "points" (N ∷ [])
    ++ figure_line "edges" (length (edges_of c N ys) ∷ [])
    ++ figure_line "rank" (rank_of c N ys ∷ [])
    ++ line (bytes "index" ∷ index_item (index_of c N ys) ∷ [])
    ++ line (bytes "normal" ∷ yes_or_no (is_normal c N ys) ∷ [])
    ++ figure_line "start" (length (start_graph ws).points ∷ length (start_graph ws).edges ∷ [])
    ++ figure_line "folds" (merges_of ws N ∷ closes_of ws (rank_of c N ys) ∷ [])
    ++ basis_lines (basis_of c N ys)
    ++ query_lines c N ys qs
