-- What `equal` says of two tables (document 01).
--   equal_exact : of two tables that are not refused, Ok true exactly if they accept the same words
-- Assumes nothing.
use mathlib.Core.Path.{◌≡◌, sym, ◌∙◌, ap, subst, fun_ext}
use mathlib.Core.Bool.{true}
use mathlib.Core.Logic.{◌↔◌}
use mathlib.Core.Option.{none}
use mathlib.Core.List.{List}
use Prim.Native.Nat.{ℕ, ◌*◌, ◌≤◌}
use lib.Dec.{eqb}
use lib.ListN.{length, take}
use borrow.Author.Tests.{eq-eqb, eqb-true}
use Rattle.std.specs.declared.result.Result.TheVariants.{Ok}
use Rattle.theory.specs.Letters.{usual}
use Rattle.theory.specs.Tables.{Cells, cell, Accepts}
use Rattle.theory.specs.Canonical.{Canonical}
use Rattle.theory.specs.TableRefusals.{equal_refusal}
use Rattle.theory.proofs.RefusalLaws.{and_true}
use Rattle.theory.proofs.TableLaws.{cell_bounded}
use Rattle.theory.proofs.OneTable.{one_table, rows_of_cells, cells_of_rows}
use Rattle.refusals.proofs.UnlessLaws.{unless_ok}
use Rattle.equals.specs.Equals.{same_cells, is_same, equal_as}
use Rattle.equals.proofs.CellsTurn.{same_equal, equal_same}
use Rattle.equals.proofs.EqualLaws.{Fine, fine, answered}

-- two tables accept the same words
abbrev pub SameWords : Cells → Cells → Type 0
SameWords c d = (q : List ℕ) → Accepts c q ↔ Accepts d q

-- over one alphabet
module _ (n N : ℕ) (t : List ℕ) (M : ℕ) (s : List ℕ) (k : Canonical N (usual n) (cell n N t)) (l : Canonical M (usual n) (cell n M s)) (hN : 1 ≤ N) (hM : 1 ≤ M) (ht : N * (2 * n) ≤ length t) (hs : M * (2 * n) ≤ length s) where
  same_words : N ≡ M → take (N * (2 * n)) t ≡ take (N * (2 * n)) s → SameWords (cell n N t) (cell n M s)
  same_words e h q = (λ a. subst (λ c. Accepts c q) same a, λ a. subst (λ c. Accepts c q) (sym same) a)
    where
      same : cell n N t ≡ cell n M s
      same = fun_ext (λ v. fun_ext (λ y. cells_of_rows n t s e (h ∙ ap (λ j. take (j * (2 * n)) s) e) v y))

  words_same : SameWords (cell n N t) (cell n M s) → (N ≡ M) × (take (N * (2 * n)) t ≡ take (N * (2 * n)) s)
  words_same w =
      let o = one_table k l hN hM (cell_bounded n N t) (cell_bounded n M s) (λ q. (w q).0) (λ q. (w q).1) in
      (o.0, rows_of_cells n t s ht hs o.0 o.1 ∙ ap (λ j. take (j * (2 * n)) s) (sym o.0))

pub equal_exact : (n N : ℕ) (t : List ℕ) (m M : ℕ) (s : List ℕ) → equal_refusal n N t m M s ≡ none
    → (equal_as n N t m M s ≡ Ok true) ↔ SameWords (cell n N t) (cell m M s)
unfolding is_same equal_as
equal_exact n N t m M s clear = (there, back)
  where
    f : Fine n N t m M s
    f = fine n N t m M s clear

    l : Canonical M (usual n) (cell n M s)
    l = subst (λ j. Canonical M (usual j) (cell j M s)) f.same f.other_canonical

    hs : M * (2 * n) ≤ length s
    hs = subst (λ j. M * (2 * j) ≤ length s) f.same f.other.2

    there : equal_as n N t m M s ≡ Ok true → SameWords (cell n N t) (cell m M s)
    there e =
        let a = and_true (eqb N M) (same_cells (take (N * (2 * n)) t) (take (N * (2 * n)) s)) (sym (unless_ok (equal_refusal n N t m M s) (is_same n N t M s) (sym e)).1) in
        subst (λ j. SameWords (cell n N t) (cell j M s)) (sym f.same)
        (same_words n N t M s f.canonical l f.lent.0 f.other.0 f.lent.2 hs (eqb-true N M a.0)
        (same_equal (take (N * (2 * n)) t) (take (N * (2 * n)) s) a.1))

    back : SameWords (cell n N t) (cell m M s) → equal_as n N t m M s ≡ Ok true
    back w =
        let o = words_same n N t M s f.canonical l f.lent.0 f.other.0 f.lent.2 hs
        (subst (λ j. SameWords (cell n N t) (cell j M s)) f.same w) in
        sym (answered n N t m M s clear) ∙ ap Ok (both o.0 o.1)
      where
        both : N ≡ M → take (N * (2 * n)) t ≡ take (N * (2 * n)) s → is_same n N t M s ≡ true
        both e h = rw (eq-eqb N M e, h) (equal_same (take (N * (2 * n)) s))
