-- Laws of stored lists on plain values: check numbers turn by turn, and what the parts of a run make together.
-- Assumes nothing.
use mathlib.Core.Path.{◌≡◌, refl, sym, ◌∙◌, ap, subst}
use mathlib.Core.Bool.{true}
use mathlib.Core.List.{List, ◌++◌}
use Prim.Native.Nat.{ℕ, ◌+◌, ◌*◌, ◌%◌, ◌≤◌, ◌<◌}
use native.Mathlib.Nat.{mod-lt}
use native.Mathlib.Numerals.{add-one}
use native.Mathlib.Omega.{arith}
use lib.ListN.{length, get_or, take, drop, replicate, length-replicate, drop_of_length-le}
use lib.Seq.{drop-cons, take_at, drop_at}
use borrow.Author.Tests.{le-leb, lt-leb}
use Rattle.cells.specs.Filled.{filled}
use Rattle.folds.specs.Folds.{FoldOutcome}
use Rattle.fold_cases.specs.declared.Case.{Case}
use Rattle.fold_cases.specs.Cases.{check_from, check_of, FoldRun, fits, Folds, RunFor, CaseRun}

-- ── Check numbers ──

-- the first i cells gave h
pub record Checked (cells : List ℕ) (h i : ℕ) : Type 0 where
  pub inside : i ≤ length cells
  pub small : h < 4294967291
  pub left : check_of cells ≡ check_from h (drop i cells)

pub checked_first : (cells : List ℕ) → Checked cells 0 0
unfolding check_of
checked_first cells = record { inside = omega arith; small = omega arith; left = refl }

module _ {cells : List ℕ} {h i : ℕ} (c : Checked cells h i) where
  pub checked_turn : i < length cells → Checked cells ((h * 31 + get_or cells i 0) % 4294967291) (i + 1)
  unfolding check_from
  checked_turn l =
      record {
        inside = omega arith;
        small = mod-lt (h * 31 + get_or cells i 0) (omega arith);
        left = c.left ∙ ap (check_from h) (drop-cons cells i 0 l) ∙ ap (λ k. check_from ((h * 31 + get_or cells i 0) % 4294967291) (drop k cells)) (sym (add-one i));
      }

  pub checked_done : length cells ≤ i → h ≡ check_of cells
  unfolding check_from
  checked_done l = sym (c.left ∙ ap (check_from h) (drop_of_length-le cells {i = i} l))

-- ── Cells ──

module _ (c : Case) (list table work : List ℕ) where
  pub table_short : length table < c.count → CaseRun c list table work table work
  unfolding fits
  table_short h = rw (lt-leb _ _ h) (refl, refl)

  pub work_short : c.count ≤ length table → length work < c.size → CaseRun c list table work table work
  unfolding fits
  work_short t h = rw (le-leb _ _ t, lt-leb _ _ h) (refl, refl)

  -- the cells lent, and those that are not
  own : (m : ℕ) (l : List ℕ) → take m (filled m 777 l) ≡ replicate m 777
  unfolding filled
  own m l = take_at (replicate m 777) _ m (length-replicate m 777)

  others : (m : ℕ) (l : List ℕ) → drop m (filled m 777 l) ≡ drop m l
  unfolding filled
  others m l = drop_at (replicate m 777) _ m (length-replicate m 777)

  module _ (t : c.count ≤ length table) (w : c.size ≤ length work) where
    fitting : fits c table work ≡ true
    unfolding fits
    fitting = rw (le-leb _ _ t, le-leb _ _ w) refl

    pub ran : (part rest : List ℕ) {full room : List ℕ} → full ≡ filled c.count 777 table → room ≡ filled c.size 777 work
        → FoldRun c.n list (take c.count full) (take c.size room) part rest
        → CaseRun c list table work (part ++ drop c.count full) (rest ++ drop c.size room)
    ran part rest {full} {room} e₁ e₂ h = subst (λ b. RunFor b c list table work (part ++ drop c.count full) (rest ++ drop c.size room)) (sym fitting) done
      where
        done : Folds c list table work (part ++ drop c.count full) (rest ++ drop c.size room)
        done =
            record {
              table_cells = part;
              work_cells = rest;
              run = (
                h.0,
                subst (λ l. FoldOutcome c.n list l (replicate c.size 777) h.0 part rest) (ap (take c.count) e₁ ∙ own c.count table)
                    (subst (λ l. FoldOutcome c.n list (take c.count full) l h.0 part rest) (ap (take c.size) e₂ ∙ own c.size work) h.1),
              );
              table_after = ap (λ l. part ++ l) (ap (drop c.count) e₁ ∙ others c.count table);
              work_after = ap (λ l. rest ++ l) (ap (drop c.size) e₂ ∙ others c.size work);
            }
