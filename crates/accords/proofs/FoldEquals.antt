-- What `fold` and `equal` say of one another (document 01).
--   folds_compare        : two tables that `fold` leaves over one alphabet are never refused by `equal`
--   equal_iff_same_lists : and `equal` says true exactly if the two lists generate the same subgroup
-- Assumes nothing.
use mathlib.Core.Path.{◌≡◌, refl, sym, ◌∙◌}
use mathlib.Core.Logic.{◌↔◌}
use mathlib.Core.Bool.{Bool, true}
use mathlib.Core.Option.{none}
use mathlib.Core.List.{List}
use Prim.Native.Nat.{ℕ}
use native.Mathlib.Omega.{arith}
use borrow.Author.Tests.{eq-eqb}
use Rattle.std.specs.declared.result.Result.{Result}
use Rattle.std.specs.declared.result.Result.TheVariants.{Ok, Err}
use Rattle.theory.specs.Words.{SameSubgroup}
use Rattle.theory.specs.Letters.{words_of}
use Rattle.theory.specs.Tables.{cell}
use Rattle.theory.specs.Subgroups.{TableOf}
use Rattle.theory.specs.TableRefusals.{equal_refusal}
use Rattle.refusals.specs.declared.Refusal.{Refusal}
use Rattle.equals.specs.Equals.{equal_as, EqualOutcome}
use Rattle.equals.proofs.EqualLaws.{answered}
use Rattle.equals.proofs.Equals.{SameWords, equal_exact}
use Rattle.folds.specs.declared.FoldFigures.{FoldFigures}
use Rattle.folds.specs.Folds.{FoldOutcome}
use Rattle.folds.proofs.Folds.{made_done}
use Rattle.accords.proofs.FoldedTables.{folded_alphabet, folded_lent, folded_sound}

module _ (n : ℕ) (us table work : List ℕ) (f : FoldFigures) (table' work' : List ℕ) (a : FoldOutcome n us table work (Ok f) table' work')
    (ws room rest : List ℕ) (g : FoldFigures) (room' rest' : List ℕ) (b : FoldOutcome n ws room rest (Ok g) room' rest')
    (r : Result Bool Refusal) (e : EqualOutcome n f.points table' n g.points room' r) where
  clear : equal_refusal n f.points table' n g.points room' ≡ none
  unfolding equal_refusal
  clear =
      rw (
        folded_alphabet n us table work f table' work' a,
        eq-eqb n n refl,
        folded_lent n us table work f table' work' a,
        folded_lent n ws room rest g room' rest' b,
        folded_sound n us table work f table' work' a,
        folded_sound n ws room rest g room' rest' b,
      )

  pub folds_compare : (c : Refusal) → r ≡ Err c → ⊥
  folds_compare c q = apart (answered n f.points table' n g.points room' clear ∙ sym e ∙ q)
    where
      apart : {b : Bool} → ◌≡◌ {A = Result Bool Refusal} (Ok b) (Err c) → ⊥
      apart d = let z : ◌≡◌ {A = ℕ} 0 1 = cc in omega arith

  pub equal_iff_same_lists : (r ≡ Ok true) ↔ SameSubgroup (words_of us) (words_of ws)
  equal_iff_same_lists = (
    λ y. let s = exact.0 (sym e ∙ y) in
        record { onward = λ q m. S.accepts.1 q ((s q).0 (T.accepts.0 q m)); back = λ q m. T.accepts.1 q ((s q).1 (S.accepts.0 q m)) },
    λ s. e ∙ exact.1 (λ q. (λ x. S.accepts.0 q (s.onward q (T.accepts.1 q x)), λ x. T.accepts.0 q (s.back q (S.accepts.1 q x)))),
  )
    where
      T : TableOf n f.points table' (words_of us)
      T = (made_done n us table work f table' work' a).1.subgroup

      S : TableOf n g.points room' (words_of ws)
      S = (made_done n ws room rest g room' rest' b).1.subgroup

      exact : (equal_as n f.points table' n g.points room' ≡ Ok true) ↔ SameWords (cell n f.points table') (cell n g.points room')
      exact = equal_exact n f.points table' n g.points room' clear
