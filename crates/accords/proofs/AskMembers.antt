-- What `ask`, `fold` and `member` say of one another (document 01).
--   ask_agrees_with_member : where neither is refused, `ask` answers as `member` does on the table that `fold` leaves of the list
--   ask_leaves_the_table   : on the same cells `ask` leaves the table that `fold` leaves
-- Assumes nothing.
use mathlib.Core.Path.{◌≡◌, refl, sym, ◌∙◌}
use mathlib.Core.Logic.{⊎_elim}
use mathlib.Core.Bool.{Bool, true, false}
use mathlib.Core.Option.{Option, none, some}
use mathlib.Core.List.{List}
use Prim.Native.Nat.{ℕ}
use lib.ListN.{length}
use Rattle.std.specs.declared.result.Result.{Result}
use Rattle.std.specs.declared.result.Result.TheVariants.{Ok, Err}
use Rattle.theory.specs.Refusals.{Refusal as FirstCause}
use Rattle.theory.specs.Tables.{cell, is_accepted}
use Rattle.theory.specs.TableRefusals.{member_refusal}
use Rattle.refusals.specs.declared.Refusal.{Refusal}
use Rattle.refusals.specs.Given.{given}
use Rattle.refusals.proofs.UnlessLaws.{ok_unless}
use Rattle.members.specs.Members.{query_word, answer_as, MemberOutcome}
use Rattle.folds.specs.declared.FoldFigures.{FoldFigures}
use Rattle.folds.specs.Folds.{FoldOutcome}
use Rattle.folds.proofs.CauseLaws.{fold_fine}
use Rattle.folds.proofs.Folds.{made_done}
use Rattle.folds.proofs.Determined.{table_determined}
use Rattle.asks.specs.Causes.{ask_refusal}
use Rattle.asks.specs.Asks.{AskOutcome}
use Rattle.asks.proofs.Asks.{asked_refused, asked_answered}
use Rattle.accords.proofs.FoldedTables.{unrefused_member, folded_members}

-- an answer that is no refusal has no cause
unrefused_ask : (n : ℕ) (list query table work : List ℕ) (r : Result Bool Refusal) (table' work' : List ℕ)
    → AskOutcome n list query table work r table' work' → ((c : Refusal) → r ≡ Err c → ⊥)
    → ask_refusal n list query (length table) (length work) ≡ none
unrefused_ask n list query table work r table' work' h f = go (ask_refusal n list query (length table) (length work)) refl
  where
    go : (o : Option FirstCause) → ask_refusal n list query (length table) (length work) ≡ o
        → ask_refusal n list query (length table) (length work) ≡ none
    go none e = e
    go (some c) e = absurd (f (given c) (asked_refused n list query table work r table' work' h c e).0)

-- an answer of `member` that is no refusal and not true is false
other : (n N : ℕ) (t query work : List ℕ) (a : Result Bool Refusal) (after : List ℕ) → MemberOutcome n N t query work a after
    → ((c : Refusal) → a ≡ Err c → ⊥) → (a ≡ Ok true → ⊥) → a ≡ Ok false
unfolding answer_as
other n N t query work a after h u f =
    go (is_accepted (cell n N t) (query_word query))
    (h.answer
    ∙ sym (ok_unless (member_refusal n N t query (length work)) (is_accepted (cell n N t) (query_word query)) (unrefused_member n N t query work a after h u)))
  where
    go : (b : Bool) → a ≡ Ok b → a ≡ Ok false
    go true e = absurd (f e)
    go false e = e

module _ (n : ℕ) (list query table work : List ℕ) (r : Result Bool Refusal) (table' work' : List ℕ)
    (h : AskOutcome n list query table work r table' work') (answers : (c : Refusal) → r ≡ Err c → ⊥) where
  pub ask_agrees_with_member : (lent cells : List ℕ) (f : FoldFigures) (lent' cells' : List ℕ)
      → FoldOutcome n list lent cells (Ok f) lent' cells' → (room : List ℕ) (a : Result Bool Refusal) (after : List ℕ)
      → MemberOutcome n f.points lent' query room a after → ((c : Refusal) → a ≡ Err c → ⊥) → r ≡ a
  ask_agrees_with_member lent cells f lent' cells' k room a after m u =
      let exact = folded_members n list lent cells f lent' cells' k query room a after m u in
      ⊎_elim (λ x. x.0 ∙ sym (exact.1 x.1))
      (λ x. x.0 ∙ sym (other n f.points lent' query room a after m u (λ i. x.1 (exact.0 i))))
      (asked_answered n list query table work r table' work' h (unrefused_ask n list query table work r table' work' h answers)).says

  pub ask_leaves_the_table : (f : FoldFigures) (lent' cells' : List ℕ) → FoldOutcome n list table work (Ok f) lent' cells'
      → table' ≡ lent'
  ask_leaves_the_table f lent' cells' k =
      let d = made_done n list table work f lent' cells' k in
      let e = fold_fine n list (length table) (length work) d.0 in
      let q = asked_answered n list query table work r table' work' h (unrefused_ask n list query table work r table' work' h answers) in
      table_determined list e.0 e.1 q.subgroup q.cleared d.1.subgroup d.1.cleared
