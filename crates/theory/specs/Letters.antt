-- The letter order and the bytes of a list text (document 01, 'Letters and lists').
--   letter_bytes      == the order a, A, b, B, .., z, Z, as bytes: a letter's number is its place there
--   byte_of y         == the byte of letter number y
--   letter_of b       == the number of the letter with byte b; 52 for a byte that is no letter
--   is_letter b       == b is one of the 52 letter bytes
--   line_end          == byte 10
--   StandsIn, AllIn  <-> a letter, every letter of a word, is one of some letters
--   usual n          == the letters of n generators in the usual order: 0 .. 2n − 1
--   words_of text     == the words of a list text: runs of letters, each ended by a line end
--   letters_in text   == L, the number of letters of a list as written
-- A text that is not a list has words too: what follows its last line end is its last word, and a byte that is no letter
-- stands as letter 52. Refused texts are never read as words. Assumes nothing.
use Rattle.std.specs.Prelude.{◌≡◌, Bool, cond, List, [], ◌∷◌, ◌++◌, map, ℕ, zero, suc, ◌*◌, ◌<◌, eqb, ltb, length, get_or, take}

unfoldable pub letter_bytes : List ℕ
letter_bytes =
    97 ∷ 65 ∷ 98 ∷ 66 ∷ 99 ∷ 67 ∷ 100 ∷ 68 ∷ 101 ∷ 69 ∷ 102 ∷ 70 ∷ 103 ∷ 71 ∷ 104 ∷ 72 ∷ 105 ∷ 73
    ∷ 106 ∷ 74 ∷ 107 ∷ 75 ∷ 108 ∷ 76 ∷ 109 ∷ 77 ∷ 110 ∷ 78 ∷ 111 ∷ 79 ∷ 112 ∷ 80 ∷ 113 ∷ 81 ∷ 114 ∷ 82
    ∷ 115 ∷ 83 ∷ 116 ∷ 84 ∷ 117 ∷ 85 ∷ 118 ∷ 86 ∷ 119 ∷ 87 ∷ 120 ∷ 88 ∷ 121 ∷ 89 ∷ 122 ∷ 90 ∷ []

-- the first place at which x stands in a list, or the list's length
unfoldable pub place_in : List ℕ → ℕ → ℕ
place_in [] x = zero
place_in (a ∷ bs) x = cond (eqb a x) zero (suc (place_in bs x))

unfoldable pub byte_of : ℕ → ℕ
byte_of y = get_or letter_bytes y 0

unfoldable pub letter_of : ℕ → ℕ
letter_of b = place_in letter_bytes b

unfoldable pub is_letter : ℕ → Bool
is_letter b = ltb (letter_of b) 52

abbrev pub line_end : ℕ
line_end = 10

-- the numbers below k, in order
unfoldable pub up_to : ℕ → List ℕ
up_to zero = []
up_to (suc k) = up_to k ++ (k ∷ [])

unfoldable pub usual : ℕ → List ℕ
usual n = up_to (2 * n)

-- letter y stands at some place of ys
abbrev pub StandsIn : List ℕ → ℕ → Type 0
StandsIn ys y = (i : ℕ) × (i < length ys) × (get_or ys i 0 ≡ y)

-- every letter of w stands in ys
abbrev pub AllIn : List ℕ → List ℕ → Type 0
AllIn ys [] = Unit {0}
AllIn ys (y ∷ w) = StandsIn ys y × AllIn ys w

-- the number of bytes before the first line end, or before the text's end
unfoldable pub word_length : List ℕ → ℕ
word_length [] = zero
word_length (b ∷ bs) = cond (eqb b line_end) zero (suc (word_length bs))

-- the word that starts where the text starts
unfoldable pub first_word : List ℕ → List ℕ
first_word text = map letter_of (take (word_length text) text)

-- a letter more in front of the first word
unfoldable pub on_first : ℕ → List (List ℕ) → List (List ℕ)
on_first y [] = (y ∷ []) ∷ []
on_first y (w ∷ ws) = (y ∷ w) ∷ ws

unfoldable pub words_of : List ℕ → List (List ℕ)
words_of [] = []
words_of (b ∷ bs) = cond (eqb b line_end) ([] ∷ words_of bs) (on_first (letter_of b) (words_of bs))

unfoldable pub letters_in : List ℕ → ℕ
letters_in [] = zero
letters_in (b ∷ bs) = cond (eqb b line_end) (letters_in bs) (suc (letters_in bs))
