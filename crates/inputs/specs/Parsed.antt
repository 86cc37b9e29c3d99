-- The answers of this crate's functions, cited by their contracts.
--   run_length m ls        == the bytes of the lines with mark m that ls starts with
--   run_text ls            == the texts of the '+' lines that ls starts with, each with its line end if it has one
--   fronted_by text input  == the text in front, and all that it does not cover as it was
--   told k                 == the number k, or none for 0
--   digit_from low high k b == k and the digit b, if b is one from low to high; else none
--   first_number_of input  == n of the first line, or refusal 1
--   moved_down             == the bytes from `from` to `end`, put to the place `to`
--   queries_place input    == where the queries stand: after the first line and the '+' lines
--   parsed_of input        == what parsing says: bad input before refusal 1 of the first line
--   bytes_after r input    == the bytes afterwards: the list in front of an accepted input, else as they were
--   ParsedInto            <-> both
--   query_at input at      == the line at `at` as a query: where its text starts, its bytes, and where the next line starts
--   walked_from d input at == the texts that the walk from `at` on gives, d lines of it
-- Assumes nothing.
use Rattle.std.specs.Prelude.{◌≡◌, false, cond, ◌&&◌, List, [], ◌∷◌, ◌++◌, ℕ, zero, suc, ◌+◌, ◌-◌, leb, length, take, drop}
use Rattle.std.specs.declared.option.Option.{Option}
use Rattle.std.specs.declared.option.Option.TheVariants.{None, Some}
use Rattle.std.specs.declared.result.Result.{Result}
use Rattle.std.specs.declared.result.Result.TheVariants.{Ok, Err}
use Rattle.refusals.specs.declared.Cause.TheVariants.{Alphabet}
use Rattle.refusals.specs.declared.Refusal.{Refusal}
use Rattle.refusals.specs.Given.{refusal_at}
use Rattle.inputs.specs.Inputs.{
  lines_of,
  first_line,
  later_lines,
  without_end,
  plus_mark,
  is_marked,
  is_bad_input,
  list_of,
  alphabet_of,
}
use Rattle.inputs.specs.declared.InputError.{InputError}
use Rattle.inputs.specs.declared.InputError.TheVariants.{Bad, Refused}
use Rattle.inputs.specs.declared.Accepted.{Accepted}
use Rattle.inputs.specs.declared.Query.{Query}

abbrev pub told : ℕ → Option ℕ
told zero = None
told (suc k) = Some (suc k)

unfoldable pub run_length : ℕ → List (List ℕ) → ℕ
run_length m [] = 0
run_length m (l ∷ ls) = cond (is_marked m l) (length l + run_length m ls) 0

unfoldable pub run_text : List (List ℕ) → List ℕ
run_text [] = []
run_text (l ∷ ls) = cond (is_marked plus_mark l) (drop 1 l ++ run_text ls) []

unfoldable pub fronted_by : List ℕ → List ℕ → List ℕ
fronted_by text input = text ++ drop (length text) input

unfoldable pub digit_from : ℕ → ℕ → ℕ → ℕ → Option ℕ
digit_from low high k b = cond (leb low b && leb b high) (Some (k + (b - 48))) None

-- the number of a first line, as it is read
abbrev pub number_or_refusal : ℕ → Result ℕ Refusal
number_or_refusal zero = Err (refusal_at Alphabet 0)
number_or_refusal (suc k) = Ok (suc k)

unfoldable pub first_number_of : List ℕ → Result ℕ Refusal
first_number_of input = number_or_refusal (alphabet_of 26 (without_end (first_line input)))

unfoldable pub moved_down : List ℕ → ℕ → ℕ → ℕ → List ℕ
moved_down input from end to = take to input ++ take (end - from) (drop from input) ++ drop (to + (end - from)) input

unfoldable pub queries_place : List ℕ → ℕ
queries_place input = length (first_line input) + run_length plus_mark (later_lines input)

-- what a first line says that is the number n, or 0 for none
abbrev pub accepted_as : ℕ → ℕ → ℕ → Result Accepted InputError
accepted_as zero list queries = Err (Refused (refusal_at Alphabet 0))
accepted_as (suc k) list queries = Ok (record { n = suc k; list = list; queries = queries })

unfoldable pub parsed_of : List ℕ → Result Accepted InputError
parsed_of input =
    cond (is_bad_input false (later_lines input)) (Err Bad)
    (accepted_as (alphabet_of 26 (without_end (first_line input))) (length (list_of (later_lines input))) (queries_place input))

abbrev pub bytes_after : Result Accepted InputError → List ℕ → List ℕ
bytes_after (Err e) input = input
bytes_after (Ok a) input = fronted_by (list_of (later_lines input)) input

pub record ParsedInto (input : List ℕ) (r : Result Accepted InputError) (after : List ℕ) : Type 0 where
  pub answer : r ≡ parsed_of input
  pub bytes : after ≡ bytes_after r input

abbrev pub query_as : ℕ → List (List ℕ) → Option Query
query_as at [] = None
query_as at (l ∷ ls) = Some (record { start = at + 1; size = length (without_end (drop 1 l)); next = at + length l })

unfoldable pub query_at : List ℕ → ℕ → Option Query
query_at input at = query_as at (lines_of (drop at input))

-- the text of a query, and then those of the lines behind it
abbrev pub walked_on : List ℕ → (ℕ → List (List ℕ)) → Option Query → List (List ℕ)
walked_on input more None = []
walked_on input more (Some q) = take q.size (drop q.start input) ∷ more q.next

unfoldable pub walked_from : ℕ → List ℕ → ℕ → List (List ℕ)
walked_from zero input at = []
walked_from (suc d) input at = walked_on input (walked_from d input) (query_at input at)
