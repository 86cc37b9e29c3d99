-- The contracts of `print_list` and `print_input` fix the cells; those of the others are equations, or `basis_determined`.
--   print_list_determined  : two runs that conform on one list leave the same cells
--   print_input_determined : two runs that conform on one input leave the same bytes and cells
-- Assumes nothing.
use mathlib.Core.Path.{◌≡◌, sym, ◌∙◌, ap, subst}
use mathlib.Core.List.{List}
use Prim.Native.Nat.{ℕ}
use Rattle.std.proofs.Common.{Result, Ok, Err}
use Rattle.refusals.specs.declared.Refusal.{Refusal}
use Rattle.bases.proofs.Determined.{basis_determined}
use Rattle.folds.proofs.Determined.{fold_determined}
use Rattle.folds.specs.declared.FoldFigures.{FoldFigures}
use Rattle.inputs.proofs.Determined.{parse_determined}
use Rattle.inputs.specs.declared.Accepted.{Accepted}
use Rattle.inputs.specs.declared.InputError.{InputError}
use Rattle.normals.proofs.Determined.{normal_determined}
use Rattle.printer.specs.LentCells.{
  BasisRun,
  lent,
  after_queries,
  Buffers,
  buffers_of,
  TableAsked,
  AfterFold,
  ListDone,
  AfterParse,
  InputDone,
}

module _ {n N : ℕ} {queries : List (List ℕ)} {b b₁ b₂ : Buffers} (h : TableAsked n N queries b b₁) (k : TableAsked n N queries b b₂) where
  same_normal : h.normal_work ≡ k.normal_work
  same_normal = (normal_determined n N b.table b.work _ _ _ _ h.normal.1 k.normal.1).1

  same_basis : (h.basis_work ≡ k.basis_work) × (b₁.basis ≡ b₂.basis)
  same_basis =
      let first : BasisRun n N b.table k.normal_work b.basis h.basis_work b₁.basis = subst (λ w. BasisRun n N b.table w b.basis h.basis_work b₁.basis) same_normal h.basis in
      let same = basis_determined n N b.table k.normal_work b.basis _ _ _ _ _ _ first.1 k.basis.1 in
      (same.1, same.2)

  same_lent : lent b₁.work b₁.numbers ≡ lent b₂.work b₂.numbers
  same_lent =
      h.queried ∙ ap (λ w. after_queries n N b.table queries (lent w b.numbers)) same_basis.0 ∙ sym k.queried

  table_determined : b₁ ≡ b₂
  table_determined =
      λ i. record { basis = same_basis.1 i; table = (h.table ∙ sym k.table) i; work = (same_lent i).work; numbers = (same_lent i).numbers }

pub print_list_determined : (n : ℕ) (list : List ℕ) (queries : List (List ℕ)) (b : Buffers) {b₁ b₂ : Buffers}
    → ListDone n list queries b b₁ → ListDone n list queries b b₂ → b₁ ≡ b₂
print_list_determined n list queries b {b₁} {b₂} h k = go k.folded _ moved k.after
  where
    same : (h.folded ≡ k.folded) × (h.fold_table ≡ k.fold_table) × (h.fold_work ≡ k.fold_work)
    same = fold_determined n list b.table b.work h.fold k.fold

    moved : AfterFold k.folded n queries (buffers_of b.basis k.fold_table k.fold_work b.numbers) b₁
    moved =
        subst (λ c. AfterFold k.folded n queries c b₁) (λ i. buffers_of b.basis (same.1 i) (same.2 i) b.numbers)
        (subst (λ x. AfterFold x n queries (buffers_of b.basis h.fold_table h.fold_work b.numbers) b₁) same.0 h.after)

    go : (x : Result FoldFigures Refusal) (c : Buffers) → AfterFold x n queries c b₁ → AfterFold x n queries c b₂ → b₁ ≡ b₂
    go (Err r) c p q = p ∙ sym q
    go (Ok f) c p q = table_determined p q

pub print_input_determined : (input : List ℕ) (b : Buffers) {input₁ input₂ : List ℕ} {b₁ b₂ : Buffers}
    → InputDone input b input₁ b₁ → InputDone input b input₂ b₂ → (input₁ ≡ input₂) × (b₁ ≡ b₂)
print_input_determined input b {input₁} {input₂} {b₁} {b₂} h k =
    (same.1, go k.parsed (subst (λ x. AfterParse x input b b₁) same.0 h.after) k.after)
  where
    same : (h.parsed ≡ k.parsed) × (input₁ ≡ input₂)
    same = parse_determined input _ _ _ _ h.parse k.parse

    go : (x : Result Accepted InputError) → AfterParse x input b b₁ → AfterParse x input b b₂ → b₁ ≡ b₂
    go (Err e) p q = p ∙ sym q
    go (Ok a) p q = print_list_determined a.n _ _ b p q
