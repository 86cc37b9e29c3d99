-- What an answer that may be a refusal tells (`specs/Given`).
--   unless_ok, unless_err : of an answer, and of a refusal, what was refused
--   ok_unless, err_unless : and back
--   short_unless          : a room that is tested is a refusal by the cause's number
--   cause_numbered        : the cause of the number of a cause is that cause
-- Assumes nothing.
use mathlib.Core.Path.{◌≡◌, refl, sym, ap}
use mathlib.Core.Bool.{Bool, true, false, cond}
use mathlib.Core.Option.{Option, none, some}
use Prim.Native.Nat.{ℕ}
use lib.Dec.{ltb}
use native.Mathlib.Omega.{arith}
use Rattle.std.specs.Prelude.{⊤}
use Rattle.std.specs.declared.result.Result.{Result}
use Rattle.std.specs.declared.result.Result.TheVariants.{Ok, Err}
use Rattle.theory.specs.Refusals.{Refusal as FirstCause, refused_if}
use Rattle.refusals.specs.declared.Cause.{Cause}
use Rattle.refusals.specs.declared.Cause.TheVariants.{Alphabet, Long, NoLetter, Beyond, Unended, Table, Work, Faulty, Output, NoNumber, Kind, Behind}
use Rattle.refusals.specs.declared.Refusal.{Refusal}
use Rattle.refusals.specs.Given.{number_of, cause_of, refusal_at, given, unless, unless_short}

module _ {A : Type 0} (o : Option FirstCause) (a : A) where
  pub unless_ok : {b : A} → Ok b ≡ unless o a → (o ≡ none) × (b ≡ a)
  unless_ok {b} e = go o e
    where
      go : (o : Option FirstCause) → Ok b ≡ unless o a → (o ≡ none) × (b ≡ a)
      go none e = (refl, cc)
      go (some c) e = absurd (let z : ◌≡◌ {A = ℕ} 0 1 = cc in omega arith)

  pub unless_err : {r : Refusal} → Err r ≡ unless o a → (c : FirstCause) × (o ≡ some c) × (r ≡ given c)
  unless_err {r} e = go o e
    where
      go : (o : Option FirstCause) → Err r ≡ unless o a → (c : FirstCause) × (o ≡ some c) × (r ≡ given c)
      go none e = absurd (let z : ◌≡◌ {A = ℕ} 0 1 = cc in omega arith)
      go (some c) e = (c, refl, cc)

  pub ok_unless : o ≡ none → Ok a ≡ unless o a
  ok_unless e = rw e (λ _. Ok a)

  pub err_unless : {c : FirstCause} → o ≡ some c → Err (given c) ≡ unless o a
  err_unless {c} e = rw e (λ _. Err (given c))

pub short_unless : (cause : Cause) (needed room : ℕ) → cause_of (number_of cause) ≡ cause
    → unless_short cause needed room ≡ unless (refused_if (ltb room needed) (number_of cause) needed) tt
short_unless cause needed room e = go (ltb room needed)
  where
    go : (b : Bool) → ◌≡◌ {A = Result ⊤ Refusal} (cond b (Err (refusal_at cause needed)) (Ok tt)) (unless (refused_if b (number_of cause) needed) tt)
    go true = ap (λ c. Err (refusal_at c needed)) (sym e)
    go false = refl

pub cause_numbered : (cause : Cause) → cause_of (number_of cause) ≡ cause
cause_numbered Alphabet = refl
cause_numbered Long = refl
cause_numbered NoLetter = refl
cause_numbered Beyond = refl
cause_numbered Unended = refl
cause_numbered Table = refl
cause_numbered Work = refl
cause_numbered Faulty = refl
cause_numbered Output = refl
cause_numbered NoNumber = refl
cause_numbered Kind = refl
cause_numbered Behind = refl
