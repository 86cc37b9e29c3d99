-- The computed refusal of `fold` is the first cause that applies (`specs/Causes`).
--   fine_alphabet      : a text that is fine has an alphabet; rows_few : its rows are fewer than there are marks
--   fold_numbered      : the causes have numbers of document 01's table
--   fold_refusal_first : it is number k at place p exactly if that is the first cause
--   fold_refusal_none  : it is none exactly if no cause applies
--   fold_fine          : where it is none the text is fine and both buffers are large enough; fine_fold : and the other way
-- Assumes nothing.
use mathlib.Core.Path.{◌≡◌, refl, ap}
use mathlib.Core.Logic.{⊎_elim, by_cases, ◌↔◌}
use mathlib.Core.Bool.{true}
use mathlib.Core.Option.{none, some}
use mathlib.Core.List.{List}
use Prim.Native.Nat.{ℕ, ◌*◌, ◌≤◌, ◌<◌}
use native.Mathlib.Decide.{dec_lt}
use native.Mathlib.Omega.{arith}
use lib.Dec.{ltb}
use lib.ListN.{length}
use borrow.Author.Tests.{ltb-true, ltb-false, lt-ltb, le-ltb}
use Rattle.theory.specs.Refusals.{text_limit, Cause6, CauseShort, turn, First, Only, Join, TextCause, refused_if, text_refusal}
use Rattle.theory.specs.Tables.{absent}
use Rattle.theory.proofs.RefusalLaws.{refusal_none, text_turn}
use Rattle.theory.proofs.TextLaws.{letters_le}
use Rattle.theory.proofs.TableRefusalLaws.{Decides, decided_first, decided_none, join, only_if, text_decides, else_none, unrefused}
use Rattle.refusals.proofs.NumberLaws.{Numbered, numbered_only, numbered_join, numbered_text}
use Rattle.folds.specs.Causes.{rows_of, work_of, FoldCause, lent_refusal, fold_refusal}

-- ── A text that is fine ──

-- n is 1 to 26
pub fine_alphabet : (n : ℕ) (list : List ℕ) → text_refusal n true list ≡ none → (1 ≤ n) × (n ≤ 26)
fine_alphabet n list e = (
  by_cases (dec_lt n 1) (λ h. absurd (refusal_none n true list e 1 0 (refl, λ x. omega (arith, x.0)))) (λ h. omega arith),
  by_cases (dec_lt 26 n) (λ h. absurd (refusal_none n true list e 1 0 (refl, λ x. omega (arith, x.1)))) (λ h. omega arith),
)

-- the rows of the room are fewer than there are marks
pub rows_few : (n : ℕ) (list : List ℕ) → text_refusal n true list ≡ none → rows_of list ≤ absent
rows_few n list e =
    by_cases (dec_lt text_limit (length list)) (λ h. absurd (refusal_none n true list e 2 0 (refl, h)))
    (λ h. omega (arith, letters_le list))

-- ── The refusal ──

-- a buffer of fewer cells than are needed
few_decides : (k place needed cells : ℕ) → Decides (Only k (λ p. (p ≡ place) × (cells < needed))) (refused_if (ltb cells needed) k place)
few_decides k place needed cells =
    only_if k (ltb cells needed) place (λ e. (refl, ltb-true cells needed e)) (λ q c. (lt-ltb cells needed c.1, c.0))

module _ (n : ℕ) (list : List ℕ) (cells room : ℕ) where
  fold_decides : Decides (FoldCause n list cells room) (fold_refusal n list cells room)
  unfolding fold_refusal lent_refusal
  fold_decides =
      join (λ k p l q a b.
      let h = text_turn n true list k p a in
      ⊎_elim (λ x. omega (arith, ap turn x.0)) (λ x. omega (arith, ap turn x.0)) b)
      (text_decides n true list)
      (λ _. join (λ k p l q a b. omega (arith, ap turn a.0, ap turn b.0))
      (few_decides 6 0 (rows_of list * (2 * n)) cells) (λ _. few_decides 7 (work_of list) (work_of list) room))

  -- the causes are some of document 01
  pub fold_numbered : (k p : ℕ) → FoldCause n list cells room k p → Numbered k
  fold_numbered k p c =
      numbered_join (TextCause n true list) (Join (Only 6 by_rows) (Only 7 by_work)) (numbered_text n true list k p)
      (numbered_join (Only 6 by_rows) (Only 7 by_work) (numbered_only 6 by_rows refl) (numbered_only 7 by_work refl)) c
    where
      by_rows : ℕ → Type 0
      by_rows = Cause6 n (rows_of list) cells

      by_work : ℕ → Type 0
      by_work = CauseShort (work_of list) room

  pub fold_refusal_first : (k p : ℕ)
      → (fold_refusal n list cells room ≡ some (record { number = k; place = p })) ↔ First (FoldCause n list cells room) k p
  fold_refusal_first = decided_first fold_decides

  pub fold_refusal_none : (fold_refusal n list cells room ≡ none) ↔ ((k p : ℕ) → FoldCause n list cells room k p → ⊥)
  fold_refusal_none = decided_none fold_decides

  pub fold_fine : fold_refusal n list cells room ≡ none
      → (text_refusal n true list ≡ none) × (rows_of list * (2 * n) ≤ cells) × (work_of list ≤ room)
  unfolding fold_refusal lent_refusal
  fold_fine e =
      let a = else_none (text_refusal n true list) (lent_refusal n list cells room) e in
      let b = else_none (refused_if (ltb cells (rows_of list * (2 * n))) 6 0) (refused_if (ltb room (work_of list)) 7 (work_of list)) a.1 in (
        a.0,
        ltb-false cells (rows_of list * (2 * n)) (unrefused (ltb cells (rows_of list * (2 * n))) 6 0 b.0),
        ltb-false room (work_of list) (unrefused (ltb room (work_of list)) 7 (work_of list) b.1),
      )

  pub fine_fold : text_refusal n true list ≡ none → rows_of list * (2 * n) ≤ cells → work_of list ≤ room
      → fold_refusal n list cells room ≡ none
  unfolding fold_refusal lent_refusal
  fine_fold e a b = rw (e, le-ltb cells (rows_of list * (2 * n)) a, le-ltb room (work_of list) b)
