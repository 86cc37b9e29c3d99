-- What the numbers that `express` writes are (document 01, 'Basis and expression'), over any outcome that conforms.
--   Expresses n N t query ks <-> ks are numbers of basis words, none beside its inverse, and their product reduces to the query's word
--   express_inside  : the numbers written for a member express it, and no others do
--   express_outside : nothing is written for another query, and no product of basis words reduces to it
--   express_empty   : a query that reduces to nothing is inside, and nothing is written
-- Assumes nothing.
use mathlib.Core.Path.{◌≡◌, sym, ◌∙◌, ap}
use mathlib.Core.Bool.{true, false, ◌&&◌}
use mathlib.Core.Option.{Option as Known, none}
use mathlib.Core.List.{List, []}
use Prim.Native.Nat.{ℕ}
use native.Mathlib.Omega.{arith}
use lib.Dec.{ltb}
use lib.IntN.{ℤ}
use lib.ListN.{length, take, drop}
use lib.Seq.{take_at}
use borrow.Author.Tests.{le-ltb}
use Rattle.std.specs.declared.option.Option.{Option}
use Rattle.std.specs.declared.option.Option.TheVariants.{None, Some}
use Rattle.std.specs.declared.result.Result.{Result}
use Rattle.std.specs.declared.result.Result.TheVariants.{Ok}
use Rattle.theory.specs.Words.{reduced, product, AllNames, Tidy, Member, ◌≈◌}
use Rattle.theory.specs.Letters.{usual}
use Rattle.theory.specs.Refusals.{Refusal as FirstCause, or_else, refused_if}
use Rattle.theory.specs.TableRefusals.{member_refusal}
use Rattle.theory.specs.Tables.{Accepts, cell, end_of, is_accepted}
use Rattle.theory.specs.Basis.{basis_of, crossings, expression_of}
use Rattle.theory.proofs.WordLaws.{by_test}
use Rattle.theory.proofs.PlaceLaws.{passes_fails}
use Rattle.theory.proofs.ReadLaws.{is_accepted_sound, is_accepted_complete}
use Rattle.theory.proofs.PathLaws.{Setting}
use Rattle.theory.proofs.TableRefusalLaws.{else_none}
use Rattle.theory.proofs.ExpressionLaws.{expression_tidy, expression_product, expression_unique, basis_accepts}
use Rattle.refusals.specs.Given.{unless}
use Rattle.refusals.specs.declared.Refusal.{Refusal}
use Rattle.refusals.proofs.UnlessLaws.{unless_ok}
use Rattle.tables.proofs.LentLaws.{sound_setting}
use Rattle.members.specs.Members.{query_word}
use Rattle.members.proofs.AnswerLaws.{fine}
use Rattle.expressions.specs.Expressions.{is_inside, numbers_of, express_refusal, expressed_of, out_for, ExpressOutcome}

pub record Expresses (n N : ℕ) (t query : List ℕ) (ks : List ℤ) : Type 0 where
  pub tidy : Tidy ks
  pub names : AllNames (length (basis_of (cell n N t) N (usual n))) ks
  pub reduces : product (basis_of (cell n N t) N (usual n)) ks ≈ query_word query

module _ {n N : ℕ} {t query work : List ℕ} {out : List ℤ} {r : Result (Option ℕ) Refusal} {work' : List ℕ} {out' : List ℤ} (h : ExpressOutcome n N t query work out r work' out') where
  abbrev refusal : Known FirstCause
  refusal = express_refusal n N t query (length work) (length out)

  -- an answer that says how many numbers are written
  inside_told : {k : ℕ} → r ≡ Ok (Some k) → (refusal ≡ none) × (is_inside n N t query ≡ true) × (k ≡ length (numbers_of n N t query))
  inside_told {k} e =
      by_test (is_inside n N t query)
      (λ i. let y : Some k ≡ Some (length (numbers_of n N t query)) = rw i at a.1 in (a.0, i, cc))
      (λ i. absurd (let y : Some k ≡ None = rw i at a.1 in let z : ◌≡◌ {A = ℕ} 0 1 = cc in omega arith))
    where
      a : (refusal ≡ none) × (Some k ≡ expressed_of n N t query)
      a = unless_ok refusal (expressed_of n N t query) (sym e ∙ h.answer)

  -- an answer that says that there are none
  outside_told : r ≡ Ok None → (refusal ≡ none) × (is_inside n N t query ≡ false)
  outside_told e =
      by_test (is_inside n N t query)
      (λ i. absurd (let y : None ≡ Some (length (numbers_of n N t query)) = rw i at a.1 in let z : ◌≡◌ {A = ℕ} 0 1 = cc in omega arith))
      (λ i. (a.0, i))
    where
      a : (refusal ≡ none) × (None ≡ expressed_of n N t query)
      a = unless_ok refusal (expressed_of n N t query) (sym e ∙ h.answer)

  -- the table of an answer is canonical
  canonical_told : refusal ≡ none → Setting (cell n N t) N (usual n)
  unfolding express_refusal
  canonical_told e = sound_setting (fine n N t query (length work) (else_none (member_refusal n N t query (length work)) _ e).0).sound

  -- the numbers written
  first_numbers : {k : ℕ} → r ≡ Ok (Some k) → take k out' ≡ expression_of (cell n N t) N (usual n) (query_word query)
  unfolding numbers_of
  first_numbers {k} e =
      let a = inside_told e in
      ap (take k) (h.numbers ∙ ap (out_for n N t query out) a.0 ∙ rw a.1)
      ∙ take_at (numbers_of n N t query) (drop (length (numbers_of n N t query)) out) k (sym a.2)

  pub express_inside : {k : ℕ} → r ≡ Ok (Some k) → Expresses n N t query (take k out') × ((ks : List ℤ) → Expresses n N t query ks → ks ≡ take k out')
  express_inside {k} e = (rw (first_numbers e) held, λ ks x. expression_unique S ks (query_word query) x.names x.tidy x.reduces ∙ sym (first_numbers e))
    where
      S : Setting (cell n N t) N (usual n)
      S = canonical_told (inside_told e).0

      accepted : Accepts (cell n N t) (query_word query)
      accepted = is_accepted_sound (cell n N t) (query_word query) (inside_told e).1

      held : Expresses n N t query (expression_of (cell n N t) N (usual n) (query_word query))
      held =
          let a = expression_tidy S (query_word query) accepted in
          record { tidy = a.0; names = a.1; reduces = expression_product S (query_word query) accepted }

  pub express_outside : r ≡ Ok None → (out' ≡ out) × (Member (basis_of (cell n N t) N (usual n)) (query_word query) → ⊥)
  express_outside e =
      let a = outside_told e in (
        h.numbers ∙ ap (out_for n N t query out) a.0 ∙ rw a.1,
        λ m. passes_fails (is_accepted_complete (cell n N t) (query_word query) (basis_accepts (canonical_told a.0) (query_word query) m)) a.1,
      )

  -- nothing of 1 to 8 applies and the query's word reduces to nothing
  module _ (fit : member_refusal n N t query (length work) ≡ none) (gone : reduced (query_word query) ≡ []) where
    no_numbers : numbers_of n N t query ≡ []
    unfolding numbers_of expression_of crossings
    no_numbers = rw gone

    home : is_inside n N t query ≡ true
    unfolding is_accepted end_of
    home = rw gone

    answered : refusal ≡ none
    unfolding express_refusal
    answered =
        ap (λ o. or_else o (refused_if (is_inside n N t query && ltb (length out) (length (numbers_of n N t query))) 9 (length (numbers_of n N t query)))) fit
        ∙ rw (home, no_numbers, le-ltb (length out) 0 (omega arith))

    pub express_empty : (r ≡ Ok (Some 0)) × (out' ≡ out)
    express_empty = (
      h.answer ∙ ap (λ o. unless o (expressed_of n N t query)) answered ∙ rw (home, no_numbers),
      h.numbers ∙ ap (out_for n N t query out) answered ∙ rw (home, no_numbers),
    )
