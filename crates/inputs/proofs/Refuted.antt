-- Wrong programs that have no place in the code: for each an input on which its outcome does not conform.
--   all_bad     : not every input is bad (the line 1)
--   none_bad    : nor is none (a blank later line)
--   all_refused : not every first line is refused (the line 1)
--   untouched   : a list is moved (the lines 1 and +a)
-- Assumes nothing.
use mathlib.Core.Path.{◌≡◌, refl, ◌∙◌, ap}
use mathlib.Core.List.{List, [], ◌∷◌}
use Prim.Native.Nat.{ℕ}
use native.Mathlib.Omega.{arith}
use lib.ListN.{get_or}
use Rattle.std.proofs.Common.{Result, Ok, Err}
use Rattle.theory.specs.Letters.{on_first, word_length}
use Rattle.decimals.specs.Decimal.{digit_bytes, decimal_of}
use Rattle.refusals.specs.declared.Refusal.{Refusal}
use Rattle.inputs.specs.Inputs.{lines_of, without_end, is_marked, is_bad_input, list_of, is_same, alphabet_of}
use Rattle.inputs.specs.Parsed.{run_length, fronted_by, queries_place, parsed_of, ParsedInto}
use Rattle.inputs.specs.declared.Accepted.{Accepted}
use Rattle.inputs.specs.declared.InputError.{InputError}
use Rattle.inputs.specs.declared.InputError.TheVariants.{Bad, Refused}

-- the lines 1; 1 and a blank one; 1 and +a
abbrev one : List ℕ
one = 49 ∷ 10 ∷ []

abbrev blank : List ℕ
blank = 49 ∷ 10 ∷ 10 ∷ []

abbrev added : List ℕ
added = 49 ∷ 10 ∷ 43 ∷ 97 ∷ 10 ∷ []

abbrev accepted : ℕ → ℕ → ℕ → Result Accepted InputError
accepted n list queries = Ok (record { n = n; list = list; queries = queries })

one_is : parsed_of one ≡ accepted 1 0 2
unfolding parsed_of is_bad_input lines_of on_first alphabet_of without_end word_length is_same decimal_of digit_bytes list_of queries_place run_length
one_is = refl

blank_is : parsed_of blank ≡ Err Bad
unfolding parsed_of is_bad_input lines_of on_first is_marked
blank_is = refl

added_is : parsed_of added ≡ accepted 1 2 5
unfolding parsed_of is_bad_input lines_of on_first alphabet_of without_end word_length is_same decimal_of digit_bytes list_of queries_place run_length is_marked
added_is = refl

pub all_bad : (after : List ℕ) → ParsedInto one (Err Bad) after → ⊥
all_bad after h = let e : Err Bad ≡ accepted 1 0 2 = h.answer ∙ one_is in let z : ◌≡◌ {A = ℕ} 0 1 = cc in omega arith

pub none_bad : (a : Accepted) (after : List ℕ) → ParsedInto blank (Ok a) after → ⊥
none_bad a after h = let e : Ok a ≡ Err Bad = h.answer ∙ blank_is in let z : ◌≡◌ {A = ℕ} 0 1 = cc in omega arith

pub all_refused : (r : Refusal) (after : List ℕ) → ParsedInto one (Err (Refused r)) after → ⊥
all_refused r after h = let e : Err (Refused r) ≡ accepted 1 0 2 = h.answer ∙ one_is in let z : ◌≡◌ {A = ℕ} 0 1 = cc in omega arith

pub untouched : ParsedInto added (accepted 1 2 5) added → ⊥
unfolding fronted_by list_of lines_of on_first is_marked
untouched h = let z : ◌≡◌ {A = ℕ} 49 97 = ap (λ l. get_or l 0 0) h.bytes in omega arith
