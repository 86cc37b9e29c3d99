-- The causes of document 01 have the numbers 1 to 12, so a refusal that code holds tells its number (`specs/Given`).
--   Numbered k                  <-> k is the number of a cause
--   numbered_only, numbered_join, numbered_text : the causes of a function have such numbers
--   given_number, given_place   : a refusal tells number and place
--   given_first                 : it is the one for this cause at this place exactly if it has the cause's number and this place
-- Assumes nothing.
use mathlib.Core.Path.{◌≡◌, refl, sym, ◌∙◌, ap}
use mathlib.Core.Bool.{Bool}
use mathlib.Core.Logic.{⊎_elim}
use mathlib.Core.Option.{Option, some}
use mathlib.Core.List.{List}
use Prim.Native.Nat.{ℕ, zero, suc}
use Rattle.theory.specs.Refusals.{Refusal as FirstCause, Only, Join, TextCause}
use Rattle.refusals.specs.declared.Cause.{Cause}
use Rattle.refusals.specs.declared.Refusal.{Refusal}
use Rattle.refusals.specs.Given.{number_of, cause_of, refusal_at, given}
use Rattle.refusals.proofs.UnlessLaws.{cause_numbered}

abbrev pub Numbered : ℕ → Type 0
Numbered k = number_of (cause_of k) ≡ k

pub number_numbered : (cause : Cause) → Numbered (number_of cause)
number_numbered cause = ap number_of (cause_numbered cause)

module _ {k p : ℕ} where
  pub numbered_only : (number : ℕ) (C : ℕ → Type 0) → Numbered number → Only number C k p → Numbered k
  numbered_only number C n c = ap (λ j. number_of (cause_of j)) c.0 ∙ n ∙ sym c.0

  pub numbered_join : (A B : ℕ → ℕ → Type 0) → (A k p → Numbered k) → (B k p → Numbered k) → Join A B k p → Numbered k
  numbered_join A B a b c = ⊎_elim a b c

pub numbered_text : (n : ℕ) (lines : Bool) (text : List ℕ) (k p : ℕ) → TextCause n lines text k p → Numbered k
numbered_text n lines text zero p c = absurd c
numbered_text n lines text (suc zero) p c = refl
numbered_text n lines text (suc (suc zero)) p c = refl
numbered_text n lines text (suc (suc (suc zero))) p c = refl
numbered_text n lines text (suc (suc (suc (suc zero)))) p c = refl
numbered_text n lines text (suc (suc (suc (suc (suc zero))))) p c = refl
numbered_text n lines text (suc (suc (suc (suc (suc (suc k)))))) p c = absurd c

module _ (f : FirstCause) (cause : Cause) (p : ℕ) where
  pub given_number : Numbered f.number → given f ≡ refusal_at cause p → f.number ≡ number_of cause
  given_number n e = sym n ∙ ap (λ (r : Refusal). number_of r.cause) e

  pub given_place : given f ≡ refusal_at cause p → f.place ≡ p
  given_place e = ap (λ (r : Refusal). r.place) e

  pub given_first : Numbered f.number → given f ≡ refusal_at cause p
      → ◌≡◌ {A = Option FirstCause} (some f) (some (record { number = number_of cause; place = p }))
  given_first n e =
      let a : f.number ≡ number_of cause = given_number n e in
      let b : f.place ≡ p = given_place e in
      ap some (λ i. record { number = a i; place = b i })

pub refusal_given : (cause : Cause) (p : ℕ) → given (record { number = number_of cause; place = p }) ≡ refusal_at cause p
refusal_given cause p = ap (λ c. refusal_at c p) (cause_numbered cause)
