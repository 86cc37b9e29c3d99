-- What `basis` and `fold` say of one another (document 01).
--   basis_folds_back     : a written basis, folded, gives the table that it was written of: as many points, and the same rows
--   basis_can_be_folded  : and it folds, if it has at most 1,048,576 bytes and the cells needed are lent
--   basis_folds_figures  : with the edges, rank and index of that table
--   basis_closes_nothing : folding it takes no closing fold
--   basis_again          : the basis of what it folds to is the same text
--   fold_basis_fold      : a list's table, its basis, and the table of that: the two tables are the same, and so are their figures
--   fold_basis_subgroup  : and the basis generates the list's subgroup
-- Assumes nothing.
use mathlib.Core.Path.{◌≡◌, sym, ◌∙◌, ap, fun_ext}
use mathlib.Core.List.{List}
use Prim.Native.Nat.{ℕ, ◌*◌, ◌≤◌}
use native.Mathlib.Omega.{arith}
use lib.ListN.{length, take}
use Rattle.std.specs.declared.result.Result.{Result}
use Rattle.std.specs.declared.result.Result.TheVariants.{Ok}
use Rattle.theory.specs.Words.{SameSubgroup}
use Rattle.theory.specs.Letters.{usual, words_of}
use Rattle.theory.specs.Refusals.{text_limit}
use Rattle.theory.specs.Tables.{Cells, cell}
use Rattle.theory.specs.Basis.{edges_of, basis_of, rank_of, index_of}
use Rattle.theory.specs.Texts.{list_text}
use Rattle.theory.proofs.OneTable.{rows_of_cells}
use Rattle.theory.proofs.StartLaws.{non_empty_words_all}
use Rattle.theory.proofs.Main.{tables_equal_iff_same_subgroup}
use Rattle.refusals.specs.declared.Refusal.{Refusal}
use Rattle.tables.specs.Checks.{figures_as, index_as}
use Rattle.tables.specs.declared.Figures.{Figures}
use Rattle.bases.specs.Bases.{basis_text, BasisOutcome}
use Rattle.bases.proofs.Bases.{
  written_lent,
  written_text,
  written_words,
  written_list,
  written_basis_table,
  written_basis_rank,
  written_basis_of_list,
}
use Rattle.folds.specs.declared.FoldFigures.{FoldFigures}
use Rattle.folds.specs.Causes.{rows_of, work_of}
use Rattle.folds.specs.Folds.{FoldOutcome}
use Rattle.folds.proofs.CauseLaws.{fine_fold}
use Rattle.folds.proofs.Folds.{made_done, every_list_folds, fold_counts_are_folds}
use Rattle.accords.proofs.FoldedTables.{folded_cells_lem}

-- tables of the same points and cells have the same figures
figures_same : (n N M : ℕ) (t s : List ℕ) → N ≡ M → ((v y : ℕ) → cell n N t v y ≡ cell n M s v y) → figures_as n N t ≡ figures_as n M s
unfolding figures_as
figures_same n N M t s e c = ap (figures (cell n N t)) e ∙ ap (λ (d : Cells). figures d M) (fun_ext (λ v. fun_ext (λ y. c v y)))
  where
    figures : Cells → ℕ → Figures
    figures d K = record { edges = length (edges_of d K (usual n)); rank = rank_of d K (usual n); index = index_as (index_of d K (usual n)) }

module _ (n N : ℕ) (t work out : List ℕ) (words bytes : ℕ) (work' out' : List ℕ)
    (h : BasisOutcome n N t work out (Ok (record { words = words; bytes = bytes })) work' out') where
  module _ (table cells : List ℕ) (f : FoldFigures) (table' cells' : List ℕ)
      (k : FoldOutcome n (take bytes out') table cells (Ok f) table' cells') where
    -- the two tables are of one subgroup
    same_cells_lem : (f.points ≡ N) × ((v y : ℕ) → cell n f.points table' v y ≡ cell n N t v y)
    same_cells_lem =
        (tables_equal_iff_same_subgroup (made_done n (take bytes out') table cells f table' cells' k).1.subgroup
        (written_basis_table n N t work out words bytes work' out' h)).1 (record { onward = λ q m. m; back = λ q m. m })

    pub basis_folds_back : (f.points ≡ N) × (take (N * (2 * n)) table' ≡ take (N * (2 * n)) t)
    basis_folds_back = (
      same_cells_lem.0,
      ap (λ p. take (p * (2 * n)) table') (sym same_cells_lem.0)
          ∙ rows_of_cells n table' t (folded_cells_lem n (take bytes out') table cells f table' cells' k)
          (written_lent n N t work out words bytes work' out' h) same_cells_lem.0 same_cells_lem.1,
    )

    -- edges, rank and index are the table's
    pub basis_folds_figures : f.counts ≡ figures_as n N t
    basis_folds_figures =
        (made_done n (take bytes out') table cells f table' cells' k).1.counts
        ∙ figures_same n f.points N table' t same_cells_lem.0 same_cells_lem.1

    pub basis_closes_nothing : f.closing ≡ 0
    unfolding figures_as
    basis_closes_nothing =
        let c = (fold_counts_are_folds n (take bytes out') table cells f table' cells' k).1 in
        let r : f.counts.rank ≡ rank_of (cell n N t) N (usual n) = ap (λ (g : Figures). g.rank) basis_folds_figures in
        omega (
          arith,
          c,
          r,
          non_empty_words_all (words_of (take bytes out')),
          (written_words n N t work out words bytes work' out' h).1,
          written_basis_rank n N t work out words bytes work' out' h,
        )

    -- the basis of what it folds to is the same text
    pub basis_again : (room rest : List ℕ) (more size : ℕ) (room' rest' : List ℕ)
        → BasisOutcome n f.points table' room rest (Ok (record { words = more; bytes = size })) room' rest' → take size rest' ≡ take bytes out'
    unfolding basis_text
    basis_again room rest more size room' rest' b =
        (written_text n f.points table' room rest more size room' rest' b).0
        ∙ ap (λ p. list_text (basis_of (cell n f.points table') p (usual n))) same_cells_lem.0
        ∙ ap (λ (c : Cells). list_text (basis_of c N (usual n))) (fun_ext (λ v. fun_ext (λ y. same_cells_lem.1 v y)))
        ∙ sym (written_text n N t work out words bytes work' out' h).0

  pub basis_can_be_folded : (table cells : List ℕ) → bytes ≤ text_limit → rows_of (take bytes out') * (2 * n) ≤ length table
      → work_of (take bytes out') ≤ length cells → (r : Result FoldFigures Refusal) (table' cells' : List ℕ) → FoldOutcome n (take bytes out') table cells r table' cells'
      → (f : FoldFigures) × (r ≡ Ok f)
  basis_can_be_folded table cells b a w r table' cells' k =
      let e = every_list_folds n (take bytes out') table cells r table' cells' k
      (fine_fold n (take bytes out') (length table) (length cells) ((written_list n N t work out words bytes work' out' h).0 b) a w) in
      (e.0, e.1)

module _ (n : ℕ) (list table work : List ℕ) (f : FoldFigures) (table' work' : List ℕ) (a : FoldOutcome n list table work (Ok f) table' work')
    (cells out : List ℕ) (words bytes : ℕ) (cells' out' : List ℕ) (b : BasisOutcome n f.points table' cells out (Ok (record { words = words; bytes = bytes })) cells' out') where
  pub fold_basis_subgroup : SameSubgroup (words_of (take bytes out')) (words_of list)
  fold_basis_subgroup =
      written_basis_of_list n f.points table' cells out words bytes cells' out' b (words_of list)
      (made_done n list table work f table' work' a).1.subgroup

  pub fold_basis_fold : (room rest : List ℕ) (g : FoldFigures) (room' rest' : List ℕ) → FoldOutcome n (take bytes out') room rest (Ok g) room' rest'
      → (g.points ≡ f.points) × (take (f.points * (2 * n)) room' ≡ take (f.points * (2 * n)) table') × (g.counts ≡ f.counts)
  fold_basis_fold room rest g room' rest' c =
      let s = basis_folds_back n f.points table' cells out words bytes cells' out' b room rest g room' rest' c in (
        s.0,
        s.1,
        basis_folds_figures n f.points table' cells out words bytes cells' out' b room rest g room' rest' c
            ∙ sym (made_done n list table work f table' work' a).1.counts,
      )
