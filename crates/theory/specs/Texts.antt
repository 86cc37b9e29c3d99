-- Texts as bytes, and words as a list text (document 01, 'Letters and lists').
--   bytes s     == the bytes of a text
--   word s      == the word that a text without line ends is
--   list_text ws == words as a list text: each in letters, ended by byte 10
-- Assumes nothing.
use Rattle.std.specs.Prelude.{List, [], ◌∷◌, ◌++◌, map, ℕ, zero, suc}
use Prim.Native.Char.{code}
use Prim.Native.String.{String, len, char_at}
use Rattle.theory.specs.Letters.{byte_of, letter_of, line_end}

-- the bytes of a text from byte i on
unfoldable pub bytes_from : String → ℕ → ℕ → List ℕ
bytes_from s i zero = []
bytes_from s i (suc d) = code (char_at s i) ∷ bytes_from s (suc i) d

abbrev pub bytes : String → List ℕ
bytes s = bytes_from s 0 (len s)

-- the word that a text without line ends is
abbrev pub word : String → List ℕ
word s = map letter_of (bytes s)

unfoldable pub list_text : List (List ℕ) → List ℕ
list_text [] = []
list_text (w ∷ ws) = map byte_of w ++ line_end ∷ list_text ws
