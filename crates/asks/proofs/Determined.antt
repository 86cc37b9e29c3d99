-- The contract of `ask` fixes its outcome.
--   ask_determined : two outcomes that conform on one input are equal, answer and cells
-- A query is a member or it is not, and of one list one table is left (folds). Assumes nothing.
use mathlib.Core.Path.{◌≡◌, refl, sym, ◌∙◌}
use mathlib.Core.Logic.{⊎_elim}
use mathlib.Core.Bool.{Bool}
use mathlib.Core.Option.{Option, none, some}
use mathlib.Core.List.{List}
use Prim.Native.Nat.{ℕ}
use lib.ListN.{length}
use Rattle.std.specs.declared.result.Result.{Result}
use Rattle.theory.specs.Refusals.{Refusal as FirstCause}
use Rattle.refusals.specs.declared.Refusal.{Refusal}
use Rattle.folds.proofs.Determined.{table_determined}
use Rattle.asks.specs.Causes.{ask_refusal}
use Rattle.asks.specs.Asks.{Says, OutcomeFor, AskOutcome}
use Rattle.asks.proofs.ScanLaws.{texts_fine}
use Rattle.asks.proofs.CauseLaws.{ask_fine}

one_answer : {ws : List (List ℕ)} {q : List ℕ} {r s : Result Bool Refusal} → Says ws q r → Says ws q s → r ≡ s
one_answer {ws} {q} {r} {s} h k =
    ⊎_elim (λ x. ⊎_elim (λ y. x.0 ∙ sym y.0) (λ y. absurd (y.1 x.1)) k)
    (λ x. ⊎_elim (λ y. absurd (x.1 y.1)) (λ y. x.0 ∙ sym y.0) k) h

pub ask_determined : (n : ℕ) (list query table work : List ℕ) {r s : Result Bool Refusal} {table₁ work₁ table₂ work₂ : List ℕ}
    → AskOutcome n list query table work r table₁ work₁ → AskOutcome n list query table work s table₂ work₂
    → (r ≡ s) × (table₁ ≡ table₂) × (work₁ ≡ work₂)
ask_determined n list query table work {r} {s} {table₁} {work₁} {table₂} {work₂} =
    go (ask_refusal n list query (length table) (length work)) refl
  where
    go : (o : Option FirstCause) → ask_refusal n list query (length table) (length work) ≡ o
        → OutcomeFor n list query table work o r table₁ work₁ → OutcomeFor n list query table work o s table₂ work₂
        → (r ≡ s) × (table₁ ≡ table₂) × (work₁ ≡ work₂)
    go none e h k =
        let f = ask_fine n list query (length table) (length work) e in
        let fine = (texts_fine n list query f.0).0 in (
          one_answer h.says k.says,
          table_determined list fine f.1 h.subgroup h.cleared k.subgroup k.cleared,
          h.zeros ∙ sym k.zeros,
        )
    go (some c) e h k = (h.0 ∙ sym k.0, h.1 ∙ sym k.1, h.2 ∙ sym k.2)
