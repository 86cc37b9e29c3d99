-- Refusals one after the other, each stage by `?`: the first that there is refuses, and where none does the next decides.
--   err_any     : a refusal is one whatever the answer would be
--   err_first   : what refuses at a stage refuses for good
--   ok_next     : behind a stage that did not refuse the later stages decide
--   held        : a test that did not refuse holds
-- Assumes nothing.
use mathlib.Core.Path.{◌≡◌, sym, ◌∙◌, ap}
use mathlib.Core.Bool.{Bool, true, not}
use mathlib.Core.Option.{Option}
use Prim.Native.Nat.{ℕ}
use borrow.Author.Tests.{not-false}
use Rattle.std.specs.Prelude.{⊤}
use Rattle.std.specs.declared.result.Result.{Result}
use Rattle.std.specs.declared.result.Result.TheVariants.{Ok, Err}
use Rattle.theory.specs.Refusals.{Refusal as FirstCause, or_else, refused_if}
use Rattle.theory.proofs.TableRefusalLaws.{unrefused}
use Rattle.refusals.specs.declared.Refusal.{Refusal}
use Rattle.refusals.specs.Given.{unless}
use Rattle.refusals.proofs.UnlessLaws.{unless_ok, unless_err, err_unless}

module _ {A B : Type 0} (o : Option FirstCause) (b : B) (a : A) where
  pub err_any : {r : Refusal} → Err r ≡ unless o b → Err r ≡ unless o a
  err_any e = let q = unless_err o b e in ap Err q.2 ∙ err_unless o a q.1

  pub err_first : (later : Option FirstCause) {r : Refusal} → Err r ≡ unless o b → Err r ≡ unless (or_else o later) a
  err_first later e =
      let q = unless_err o b e in ap Err q.2 ∙ err_unless (or_else o later) a (ap (λ x. or_else x later) q.1)

  pub ok_next : (later : Option FirstCause) {u : B} {x : Result A Refusal} → Ok u ≡ unless o b → x ≡ unless later a
      → x ≡ unless (or_else o later) a
  ok_next later e f = let q = unless_ok o b e in f ∙ sym (ap (λ y. unless (or_else y later) a) q.0)

pub held : (b : Bool) (k p : ℕ) {u : ⊤} → Ok u ≡ unless (refused_if (not b) k p) tt → b ≡ true
held b k p e = not-false b (unrefused (not b) k p (unless_ok (refused_if (not b) k p) tt e).0)
