-- The input of the printing program (document 01, 'The printing program'), on the bytes that were read.
--   lines_of text             == its lines, each with its end if it has one: byte 10 ends a line, it does not start another
--   first_line, later_lines    == the first line, empty where there is none, and the lines after it
--   without_end l             == a line without its end
--   is_marked m l             == the line starts with the mark m
--   is_bad_input asked ls      == a line with neither mark, or a '+' after a '?'; asked: a '?' line stands before
--   list_of ls                == the list: the texts of the '+' lines, each with its line end if it has one
--   queries_of ls             == the queries: the texts of the '?' lines, each without its line end
--   alphabet_of d l           == the number of 1 to d that the line is in decimal, without leading zeros; 0 if none
-- Assumes nothing.
use Rattle.std.specs.Prelude.{Bool, true, false, cond, ◌&&◌, ◌||◌, List, [], ◌∷◌, ◌++◌, ℕ, zero, suc, eqb, take, drop}
use Rattle.theory.specs.Letters.{line_end, word_length, on_first}
use Rattle.decimals.specs.Decimal.{decimal_of}

-- ── Lines ──

unfoldable pub lines_of : List ℕ → List (List ℕ)
lines_of [] = []
lines_of (b ∷ bs) = cond (eqb b line_end) ((b ∷ []) ∷ lines_of bs) (on_first b (lines_of bs))

abbrev pub head_of : List (List ℕ) → List ℕ
head_of [] = []
head_of (l ∷ ls) = l

abbrev pub first_line : List ℕ → List ℕ
first_line text = head_of (lines_of text)

abbrev pub later_lines : List ℕ → List (List ℕ)
later_lines text = drop 1 (lines_of text)

unfoldable pub without_end : List ℕ → List ℕ
without_end l = take (word_length l) l

-- ── Marks ──

abbrev pub plus_mark : ℕ
plus_mark = 43

abbrev pub query_mark : ℕ
query_mark = 63

unfoldable pub is_marked : ℕ → List ℕ → Bool
is_marked m [] = false
is_marked m (b ∷ bs) = eqb b m

unfoldable pub is_bad_input : Bool → List (List ℕ) → Bool
is_bad_input asked [] = false
is_bad_input asked (l ∷ ls) =
    cond (is_marked plus_mark l) (asked || is_bad_input asked ls) (cond (is_marked query_mark l) (is_bad_input true ls) true)

unfoldable pub list_of : List (List ℕ) → List ℕ
list_of [] = []
list_of (l ∷ ls) = cond (is_marked plus_mark l) (drop 1 l ++ list_of ls) (list_of ls)

unfoldable pub queries_of : List (List ℕ) → List (List ℕ)
queries_of [] = []
queries_of (l ∷ ls) = cond (is_marked query_mark l) (without_end (drop 1 l) ∷ queries_of ls) (queries_of ls)

-- ── The first line ──

unfoldable pub is_same : List ℕ → List ℕ → Bool
is_same [] [] = true
is_same [] (b ∷ bs) = false
is_same (a ∷ l) [] = false
is_same (a ∷ l) (b ∷ bs) = is_same l bs && eqb a b

unfoldable pub alphabet_of : ℕ → List ℕ → ℕ
alphabet_of zero l = zero
alphabet_of (suc d) l = cond (is_same l (decimal_of (suc d))) (suc d) (alphabet_of d l)
