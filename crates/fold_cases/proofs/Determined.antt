-- The contract of `run_case` fixes the cells.
--   case_determined : two runs that conform on one case leave the same cells
-- Assumes nothing.
use mathlib.Core.Path.{◌≡◌, sym, ◌∙◌, ap}
use mathlib.Core.Bool.{Bool, true, false}
use mathlib.Core.List.{List, ◌++◌}
use lib.ListN.{drop, replicate}
use Rattle.folds.proofs.Determined.{fold_determined}
use Rattle.fold_cases.specs.declared.Case.{Case}
use Prim.Native.Nat.{ℕ}
use Rattle.fold_cases.specs.Cases.{fits, RunFor, CaseRun}

pub case_determined : (c : Case) (list table work : List ℕ) {table₁ work₁ table₂ work₂ : List ℕ}
    → CaseRun c list table work table₁ work₁ → CaseRun c list table work table₂ work₂ → (table₁ ≡ table₂) × (work₁ ≡ work₂)
case_determined c list table work {table₁} {work₁} {table₂} {work₂} = go (fits c table work)
  where
    go : (b : Bool) → RunFor b c list table work table₁ work₁ → RunFor b c list table work table₂ work₂ → (table₁ ≡ table₂) × (work₁ ≡ work₂)
    go true h k =
        let same = fold_determined c.n list (replicate c.count 777) (replicate c.size 777) h.run.1 k.run.1 in (
          h.table_after ∙ ap (λ l. l ++ drop c.count table) same.1 ∙ sym k.table_after,
          h.work_after ∙ ap (λ l. l ++ drop c.size work) same.2 ∙ sym k.work_after,
        )
    go false h k = (h.0 ∙ sym k.0, h.1 ∙ sym k.1)
