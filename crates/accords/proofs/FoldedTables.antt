-- The table that `fold` leaves, lent to the functions that take a table (document 01).
--   folded_lent       : it is a lent table: 1 to 1,048,577 points, and all their cells; folded_alphabet : over 1 to 26 generators
--   folded_sound      : no cell of it is faulty
--   folded_checks     : `check` refuses it nowhere, and gives the figures that `fold` gave
--   folded_members    : of a query that is not refused, `member` says true exactly if it is a member of the list's subgroup
--   folded_basis_rank : `basis` writes as many words as the rank that `fold` gave
-- Assumes nothing.
use mathlib.Core.Path.{◌≡◌, refl, sym, ◌∙◌, ap}
use mathlib.Core.Logic.{◌↔◌, by_cases}
use mathlib.Core.Bool.{Bool, true}
use mathlib.Core.Option.{Option, none, some}
use mathlib.Core.List.{List}
use Prim.Native.Nat.{ℕ, ◌*◌, ◌≤◌}
use native.Mathlib.Decide.{dec_lt}
use native.Mathlib.Nat.{mul-le-mul_right}
use native.Mathlib.Omega.{arith}
use lib.ListN.{length}
use Rattle.std.specs.declared.result.Result.{Result}
use Rattle.std.specs.declared.result.Result.TheVariants.{Ok, Err}
use Rattle.theory.specs.Words.{Member}
use Rattle.theory.specs.Letters.{words_of}
use Rattle.theory.specs.Refusals.{Refusal as FirstCause, text_limit, point_limit, is_alphabet, text_refusal}
use Rattle.theory.specs.Tables.{cell, is_accepted}
use Rattle.theory.specs.TableRefusals.{is_lent, cell_refusal, check_refusal, member_refusal, at_cell}
use Rattle.theory.proofs.RefusalLaws.{in_alphabet, refusal_none}
use Rattle.theory.proofs.TextLaws.{letters_le}
use Rattle.theory.proofs.CanonicalLaws.{table_canonical_none}
use Rattle.theory.proofs.TableRefusalLaws.{in_lent}
use Rattle.refusals.specs.declared.Refusal.{Refusal}
use Rattle.refusals.specs.Given.{given}
use Rattle.refusals.proofs.UnlessLaws.{ok_unless, err_unless}
use Rattle.tables.specs.Checks.{figures_as, checked_as, CheckOutcome}
use Rattle.tables.specs.declared.Figures.{Figures}
use Rattle.members.specs.Members.{query_word, answer_as, MemberOutcome}
use Rattle.members.proofs.Members.{member_exact}
use Rattle.bases.specs.Bases.{BasisOutcome}
use Rattle.bases.proofs.Bases.{written_basis_rank}
use Rattle.folds.specs.declared.FoldFigures.{FoldFigures}
use Rattle.folds.specs.Causes.{rows_of}
use Rattle.folds.specs.Folds.{Done, FoldOutcome}
use Rattle.folds.proofs.CauseLaws.{fine_alphabet, fold_fine}
use Rattle.folds.proofs.Folds.{made_done}

-- an answer that is no refusal has no cause
pub unrefused_member : (n N : ℕ) (t query work : List ℕ) (a : Result Bool Refusal) (after : List ℕ) → MemberOutcome n N t query work a after
    → ((c : Refusal) → a ≡ Err c → ⊥) → member_refusal n N t query (length work) ≡ none
unfolding answer_as
unrefused_member n N t query work a after h f = go (member_refusal n N t query (length work)) refl
  where
    go : (o : Option FirstCause) → member_refusal n N t query (length work) ≡ o → member_refusal n N t query (length work) ≡ none
    go none e = e
    go (some c) e = absurd (f (given c) (h.answer ∙ sym (err_unless (member_refusal n N t query (length work)) (is_accepted (cell n N t) (query_word query)) e)))

module _ (n : ℕ) (list table work : List ℕ) (f : FoldFigures) (table' work' : List ℕ)
    (h : FoldOutcome n list table work (Ok f) table' work') where
  -- the outcome of a list that is not refused
  abbrev done : Done n list table work f table' work'
  done = (made_done n list table work f table' work' h).1

  fine : (text_refusal n true list ≡ none) × (rows_of list * (2 * n) ≤ length table) × (8 * rows_of list ≤ length work)
  fine = fold_fine n list (length table) (length work) (made_done n list table work f table' work' h).0

  -- its cells are all there
  pub folded_cells_lem : f.points * (2 * n) ≤ length table'
  folded_cells_lem = omega (arith, mul-le-mul_right (2 * n) done.cleared.used, fine.1, done.cleared.same)

  pub folded_lent : is_lent n f.points (length table') ≡ true
  folded_lent = in_lent n f.points (length table') done.subgroup.based few folded_cells_lem
    where
      short : length list ≤ text_limit
      short =
          by_cases (dec_lt text_limit (length list)) (λ l. absurd (refusal_none n true list fine.0 2 0 (refl, l))) (λ l. omega arith)

      few : f.points ≤ point_limit
      few = omega (arith, done.cleared.used, letters_le list, short)

  pub folded_sound : cell_refusal n f.points table' ≡ none
  unfolding cell_refusal
  folded_sound = ap at_cell (table_canonical_none n f.points table' done.subgroup.canonical)

  pub folded_alphabet : is_alphabet n ≡ true
  folded_alphabet = let a = fine_alphabet n list fine.0 in in_alphabet n a.0 a.1

  pub folded_checks : (r : Result Figures Refusal) → CheckOutcome n f.points table' r → r ≡ Ok f.counts
  unfolding checked_as check_refusal
  folded_checks r c = c ∙ sym (ok_unless (check_refusal n f.points table') (figures_as n f.points table') clear) ∙ ap Ok (sym done.counts)
    where
      clear : check_refusal n f.points table' ≡ none
      clear = rw (folded_alphabet, folded_lent, folded_sound)

  pub folded_members : (query cells : List ℕ) (a : Result Bool Refusal) (after : List ℕ) → MemberOutcome n f.points table' query cells a after
      → ((c : Refusal) → a ≡ Err c → ⊥) → (a ≡ Ok true) ↔ Member (words_of list) (query_word query)
  folded_members query cells a after k u =
      let e = unrefused_member n f.points table' query cells a after k u in
      let x = member_exact done.subgroup query (length cells) e in (λ i. x.0 (sym k.answer ∙ i), λ m. k.answer ∙ x.1 m)

  pub folded_basis_rank : (cells out : List ℕ) (words bytes : ℕ) (cells' out' : List ℕ)
      → BasisOutcome n f.points table' cells out (Ok (record { words = words; bytes = bytes })) cells' out' → words ≡ f.counts.rank
  unfolding figures_as
  folded_basis_rank cells out words bytes cells' out' k =
      written_basis_rank n f.points table' cells out words bytes cells' out' k
      ∙ sym (ap (λ (c : Figures). c.rank) done.counts)
