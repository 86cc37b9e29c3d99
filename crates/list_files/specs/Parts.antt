-- What the parts of `read_list` take and leave, cited by their contracts.
--   passed_as words  == words as `skip_words` answers them: the place behind them and the bytes of their text
--   AllRead words  <-> they were read to their end; words_of, place_behind == the words, and the place behind them
--   line_of w        == the bytes of a word, and its line end
--   PutAt           <-> so many bytes stand in the text from a place on, the others are as they were; the places behind in file and text
-- Assumes nothing.
use Rattle.std.specs.Prelude.{◌≡◌, List, [], ◌∷◌, ◌++◌, map, ℕ, ◌+◌, length}
use Rattle.std.specs.declared.result.Result.{Result}
use Rattle.std.specs.declared.result.Result.TheVariants.{Ok, Err}
use Rattle.theory.specs.Letters.{byte_of, line_end}
use Rattle.theory.specs.Texts.{list_text}
use Rattle.numbers.specs.Splices.{spliced}
use Rattle.refusals.specs.declared.Refusal.{Refusal}
use Rattle.refusals.specs.Given.{given}
use Rattle.list_files.specs.ListFiles.{Words, stopped, read}
use Rattle.list_files.specs.declared.Passed.{Passed}
use Rattle.list_files.specs.declared.Places.{Places}

abbrev pub passed_as : Words → Result Passed Refusal
passed_as (stopped r) = Err (given r)
passed_as (read ws q) = Ok (record { place = q; bytes = length (list_text ws) })

abbrev pub AllRead : Words → Type 0
AllRead (stopped r) = ⊥
AllRead (read ws q) = Unit {0}

abbrev pub words_of : Words → List (List ℕ)
words_of (stopped r) = []
words_of (read ws q) = ws

abbrev pub place_behind : Words → ℕ
place_behind (stopped r) = 0
place_behind (read ws q) = q

abbrev pub line_of : List ℕ → List ℕ
line_of w = map byte_of w ++ line_end ∷ []

pub record PutAt (end to : ℕ) (bytes text : List ℕ) (r : Places) (after : List ℕ) : Type 0 where
  pub file_place : r.from ≡ end
  pub text_place : r.to ≡ to + length bytes
  pub cells : after ≡ spliced to bytes text
