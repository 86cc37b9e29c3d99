-- What a caller learns from an outcome of `ask` (document 01).
--   asked_refused          : where there is a refusal it is given, and both buffers are as they were
--   refused_by_first_cause : a list and a query are refused by a cause at a place exactly if that is the first cause that applies
--   asked_answered         : where there is none the outcome is `Answered`
--   ask_exact              : then the answer is true exactly if the query is a member, else false
-- Assumes nothing.
use mathlib.Core.Path.{◌≡◌, refl, sym, ◌∙◌, ap, subst}
use mathlib.Core.Logic.{⊎_elim, ◌↔◌}
use mathlib.Core.Bool.{Bool, true, false}
use mathlib.Core.Option.{Option, none, some}
use mathlib.Core.List.{List}
use Prim.Native.Nat.{ℕ}
use native.Mathlib.Omega.{arith}
use lib.ListN.{length}
use Rattle.std.specs.declared.result.Result.{Result}
use Rattle.std.specs.declared.result.Result.TheVariants.{Ok, Err}
use Rattle.theory.specs.Words.{Member}
use Rattle.theory.specs.Letters.{words_of}
use Rattle.theory.specs.Refusals.{Refusal as FirstCause, First}
use Rattle.refusals.specs.Given.{number_of, refusal_at, given}
use Rattle.refusals.specs.declared.Cause.{Cause}
use Rattle.refusals.specs.declared.Refusal.{Refusal}
use Rattle.refusals.proofs.NumberLaws.{given_first, refusal_given}
use Rattle.members.specs.Members.{query_word}
use Rattle.asks.specs.Causes.{AskCause, ask_refusal}
use Rattle.asks.specs.Asks.{Says, Answered, OutcomeFor, AskOutcome}
use Rattle.asks.proofs.CauseLaws.{ask_numbered, ask_refusal_first}

apart : ◌≡◌ {A = Result Bool Refusal} (Ok true) (Ok false) → ⊥
apart e = let z : ◌≡◌ {A = ℕ} 0 1 = cc in omega arith

-- an answer is one of the two, and the subgroup says which
pub says_inside : {ws : List (List ℕ)} {q : List ℕ} {r : Result Bool Refusal} → Says ws q r → (r ≡ Ok true) ↔ Member ws q
says_inside {ws} {q} {r} s = (
  λ e. ⊎_elim (λ x. x.1) (λ x. absurd (apart (sym e ∙ x.0))) s,
  λ m. ⊎_elim (λ x. x.0) (λ x. absurd (x.1 m)) s,
)

pub says_outside : {ws : List (List ℕ)} {q : List ℕ} {r : Result Bool Refusal} → Says ws q r → (r ≡ Ok false) ↔ (Member ws q → ⊥)
says_outside {ws} {q} {r} s = (
  λ e m. ⊎_elim (λ x. apart (sym x.0 ∙ e)) (λ x. x.1 m) s,
  λ out. ⊎_elim (λ x. absurd (out x.1)) (λ x. x.0) s,
)

pub never_refuses : {ws : List (List ℕ)} {q : List ℕ} {r : Result Bool Refusal} {c : Refusal} → Says ws q r → r ≡ Err c → ⊥
never_refuses {ws} {q} {r} {c} s e = ⊎_elim (λ x. given_none true (sym e ∙ x.0)) (λ x. given_none false (sym e ∙ x.0)) s
  where
    given_none : (b : Bool) → Err c ≡ Ok b → ⊥
    given_none b e = let z : ◌≡◌ {A = ℕ} 0 1 = cc in omega arith

module _ (n : ℕ) (list query table work : List ℕ) (r : Result Bool Refusal) (table' work' : List ℕ)
    (h : AskOutcome n list query table work r table' work') where
  -- an outcome, by the refusal that there is
  outcome : {o : Option FirstCause} → ask_refusal n list query (length table) (length work) ≡ o
      → OutcomeFor n list query table work o r table' work'
  outcome e = subst (λ o. OutcomeFor n list query table work o r table' work') e h

  pub asked_refused : (c : FirstCause) → ask_refusal n list query (length table) (length work) ≡ some c
      → (r ≡ Err (given c)) × (table' ≡ table) × (work' ≡ work)
  asked_refused c e = outcome e

  pub asked_answered : ask_refusal n list query (length table) (length work) ≡ none → Answered n list query table work r table' work'
  asked_answered e = outcome e

  -- a refusal that was given is the computed one
  was_refused : (c : Refusal) → r ≡ Err c
      → ask_refusal n list query (length table) (length work) ≡ some (record { number = number_of c.cause; place = c.place })
  was_refused c e = go (ask_refusal n list query (length table) (length work)) refl
    where
      go : (o : Option FirstCause) → ask_refusal n list query (length table) (length work) ≡ o
          → ask_refusal n list query (length table) (length work) ≡ some (record { number = number_of c.cause; place = c.place })
      go none q = absurd (never_refuses (asked_answered q).says e)
      go (some f) q =
          let d = asked_refused f q in
          let same : given f ≡ c = cc (d.0, e) in
          let first = ask_refusal_first n list query (length table) (length work) f.number f.place in
          let numbered = ask_numbered n list query (length table) (length work) f.number f.place (first.0 q).applies in
          q ∙ given_first f c.cause c.place numbered same

  pub refused_by_first_cause : (cause : Cause) (p : ℕ)
      → (r ≡ Err (refusal_at cause p)) ↔ First (AskCause n list query (length table) (length work)) (number_of cause) p
  refused_by_first_cause cause p =
      let first = ask_refusal_first n list query (length table) (length work) (number_of cause) p in (
        λ e. first.0 (was_refused (refusal_at cause p) e),
        λ c. (asked_refused (record { number = number_of cause; place = p }) (first.1 c)).0 ∙ ap Err (refusal_given cause p),
      )

  pub ask_exact : ask_refusal n list query (length table) (length work) ≡ none
      → ((r ≡ Ok true) ↔ Member (words_of list) (query_word query)) × ((r ≡ Ok false) ↔ (Member (words_of list) (query_word query) → ⊥))
  ask_exact e = let s = (asked_answered e).says in (says_inside s, says_outside s)
