-- Wrong programs that have no place in the code: for each an input on which its outcome does not conform. Lent cells hold 777.
--   refuse_all     : not every list and query is refused (the empty list, the empty query)
--   refuse_nothing : nor none (n = 0)
--   query_first    : nor is the query's refusal given where the list has one of the same place in the order (b over one generator, and 1)
--   outside_all    : nor is every query outside (the empty list, the empty query)
--   inside_all     : nor inside (the empty list, the query a)
--   work_left      : nor are the cells of a query that is no member left (the empty list, a query of nine letters)
--   table_left     : nor is the table left as it was (the empty list)
-- Assumes nothing.
use mathlib.Core.Path.{◌≡◌, refl, sym, ◌∙◌, ap}
use mathlib.Core.Bool.{Bool, true, false}
use mathlib.Core.Option.{none, some}
use mathlib.Core.List.{List, [], ◌∷◌}
use Prim.Native.Nat.{ℕ, ◌<◌}
use native.Mathlib.Omega.{arith}
use lib.ListN.{length, get_or, replicate}
use Rattle.std.specs.declared.result.Result.{Result}
use Rattle.std.specs.declared.result.Result.TheVariants.{Ok, Err}
use Rattle.theory.specs.Words.{reduced_by, named, product, Member}
use Rattle.theory.specs.Letters.{letter_bytes, place_in, letter_of, is_letter, words_of, letters_in}
use Rattle.theory.specs.Refusals.{is_alphabet, byte_refusal, bytes_refusal, is_unended}
use Rattle.theory.specs.Tables.{cell}
use Rattle.theory.specs.Texts.{bytes_from}
use Rattle.cases.proofs.ExamplesHold.{examples_hold}
use Rattle.cells.specs.Filled.{filled}
use Rattle.refusals.specs.Given.{number_of, refusal_at}
use Rattle.refusals.specs.declared.Cause.TheVariants.{Alphabet, NoLetter, Beyond}
use Rattle.refusals.specs.declared.Refusal.{Refusal}
use Rattle.members.specs.Members.{query_word}
use Rattle.asks.specs.Causes.{texts_refusal, ask_refusal}
use Rattle.asks.specs.Asks.{AskOutcome}
use Rattle.asks.proofs.Asks.{never_refuses, asked_refused, asked_answered, ask_exact}

-- the lent cells
abbrev lent : ℕ → List ℕ
lent k = replicate k 777

empty_fine : ask_refusal 1 [] [] 2 8 ≡ none
unfolding ask_refusal texts_refusal is_alphabet bytes_refusal is_unended letters_in
empty_fine = refl

letter_fine : ask_refusal 1 [] (97 ∷ []) 2 8 ≡ none
unfolding ask_refusal texts_refusal is_alphabet byte_refusal bytes_refusal is_letter letter_of place_in letter_bytes is_unended letters_in
letter_fine = refl

-- nine letters need more work cells than the empty list
abbrev nine : List ℕ
nine = replicate 9 97

nine_fine : ask_refusal 1 [] nine 2 9 ≡ none
unfolding ask_refusal texts_refusal is_alphabet byte_refusal bytes_refusal is_letter letter_of place_in letter_bytes is_unended letters_in
nine_fine = refl

-- the empty word is a member
empty_member : Member (words_of []) (query_word [])
unfolding words_of product named reduced_by
empty_member = record { numbers = []; listed = tt; reduces = refl }

pub refuse_all : (r : Refusal) (table' work' : List ℕ) → AskOutcome 1 [] [] (lent 2) (lent 8) (Err r) table' work' → ⊥
refuse_all r table' work' h = never_refuses (asked_answered 1 [] [] (lent 2) (lent 8) (Err r) table' work' h empty_fine).says refl

-- no alphabet; and a list refused by 4 with a query that 3 would refuse
no_letters : (cells room : ℕ) → ask_refusal 0 [] [] cells room ≡ some (record { number = 1; place = 0 })
unfolding ask_refusal texts_refusal is_alphabet
no_letters cells room = refl

beyond : (cells room : ℕ) → ask_refusal 1 (98 ∷ 10 ∷ []) (49 ∷ []) cells room ≡ some (record { number = 4; place = 0 })
unfolding ask_refusal texts_refusal is_alphabet byte_refusal bytes_refusal is_letter letter_of place_in letter_bytes
beyond cells room = refl

pub refuse_nothing : (table work : List ℕ) (r : Result Bool Refusal) (table' work' : List ℕ) → ((c : Refusal) → r ≡ Err c → ⊥)
    → AskOutcome 0 [] [] table work r table' work' → ⊥
refuse_nothing table work r table' work' out h =
    out (refusal_at Alphabet 0)
    (asked_refused 0 [] [] table work r table' work' h (record { number = 1; place = 0 }) (no_letters (length table) (length work))).0

pub query_first : (table work table' work' : List ℕ)
    → AskOutcome 1 (98 ∷ 10 ∷ []) (49 ∷ []) table work (Err (refusal_at NoLetter 0)) table' work' → ⊥
query_first table work table' work' h =
    let four = asked_refused 1 (98 ∷ 10 ∷ []) (49 ∷ []) table work (Err (refusal_at NoLetter 0)) table' work' h in
    let c : Err (refusal_at NoLetter 0) ≡ Err (refusal_at Beyond 0) =
    (four (record { number = 4; place = 0 }) (beyond (length table) (length work))).0 in
    let same : refusal_at NoLetter 0 ≡ refusal_at Beyond 0 = cc c in
    let z : ◌≡◌ {A = ℕ} 3 4 = ap (λ (x : Refusal). number_of x.cause) same in omega arith

pub outside_all : (table' work' : List ℕ) → AskOutcome 1 [] [] (lent 2) (lent 8) (Ok false) table' work' → ⊥
outside_all table' work' h = (ask_exact 1 [] [] (lent 2) (lent 8) (Ok false) table' work' h empty_fine).1.0 refl empty_member

-- a is no member of the trivial subgroup
letter_outside : Member (words_of []) (query_word (97 ∷ [])) → ⊥
unfolding bytes_from letter_of place_in letter_bytes
letter_outside = examples_hold.1.0.answers.1.0.0

pub inside_all : (table' work' : List ℕ) → AskOutcome 1 [] (97 ∷ []) (lent 2) (lent 8) (Ok true) table' work' → ⊥
inside_all table' work' h =
    letter_outside ((ask_exact 1 [] (97 ∷ []) (lent 2) (lent 8) (Ok true) table' work' h letter_fine).0.0 refl)

pub work_left : (table' work' : List ℕ) → get_or work' 8 0 ≡ 777 → AskOutcome 1 [] nine (lent 2) (lent 9) (Ok false) table' work' → ⊥
unfolding filled letters_in
work_left table' work' e h =
    let d = asked_answered 1 [] nine (lent 2) (lent 9) (Ok false) table' work' h nine_fine in
    let z : ◌≡◌ {A = ℕ} 777 0 = sym e ∙ ap (λ l. get_or l 8 0) d.zeros in
    omega arith

pub table_left : (r : Result Bool Refusal) (work' : List ℕ) → AskOutcome 1 [] [] (lent 2) (lent 8) r (lent 2) work' → ⊥
unfolding letters_in cell
table_left r work' h =
    let d = asked_answered 1 [] [] (lent 2) (lent 8) r (lent 2) work' h empty_fine in
    let one : d.points ≡ 1 = omega (arith, d.subgroup.based, d.cleared.used) in
    let low : 777 < d.points = d.subgroup.canonical.within 0 0 777 (rw one, λ e. omega arith) in
    omega (arith, one, low)
