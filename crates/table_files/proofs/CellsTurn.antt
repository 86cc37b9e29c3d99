-- The turns of `put_cells` on plain values: i cells are written, the numbers from p on are still to come.
--   Head                              : the numbers before are written, those behind make a whole run
--   head_some, head_turn, head_done
-- Assumes nothing.
use mathlib.Core.Path.{◌≡◌, refl, sym, ◌∙◌, ap, subst}
use mathlib.Core.Bool.{Bool, true, false, cond}
use mathlib.Core.Option.{none, some}
use mathlib.Core.List.{List, [], ◌∷◌, ◌++◌, append_assoc, append-nil}
use Prim.Native.Nat.{ℕ, zero, suc, ◌+◌, ◌-◌, ◌≤◌, ◌<◌}
use native.Mathlib.Numerals.{add-one}
use native.Mathlib.Omega.{arith}
use lib.Dec.{ltb}
use borrow.Author.Tests.{eq-eqb, ne_eqb}
use lib.ListN.{length, take, set, length-set}
use lib.Seq.{take-suc-set, take-length}
use Rattle.theory.specs.Files.{number_limit, NumberAt}
use Rattle.numbers.specs.declared.Number.{Number}
use Rattle.numbers.specs.Reads.{Stands}
use Rattle.runs.specs.Runs.{Run, broken, whole, on_run, run_on, number_at, behind, numbers_at}
use Rattle.runs.proofs.Standing.{standing_complete, none_standing, behind_inside}
use Rattle.table_files.specs.TableFiles.{number_cell}
use Rattle.table_files.specs.Parts.{Whole, cells_of, run_of}

-- of the cells that are to be written i are, and the others' numbers stand from p on
pub record Head (file : List ℕ) (at count : ℕ) (p i : ℕ) (cells : List ℕ) : Type 0 where
  pub inside : p ≤ length file
  pub few : i ≤ count
  pub same : length cells ≡ count
  pub todo : Whole (run_of file p (count - i))
  pub written : take i cells ++ cells_of (run_of file p (count - i)) ≡ cells_of (run_of file at count)

-- a whole run of some numbers: the first, and a whole run behind it
pub record Split (file : List ℕ) (p k x : ℕ) : Type 0 where
  pub rest : Whole (run_of file (behind p x) (k - 1))
  pub cells : cells_of (run_of file p k) ≡ number_cell x ∷ cells_of (run_of file (behind p x) (k - 1))

run_suc : (file : List ℕ) (p k : ℕ) → 0 < k
    → run_of file p k ≡ run_on (number_limit + 1) p (number_at file p) (λ q. run_of file q (k - 1))
unfolding run_of numbers_at
run_suc file p zero h = absurd (omega arith)
run_suc file p (suc k) h = ap (λ j. run_on (number_limit + 1) p (number_at file p) (λ q. run_of file q j)) (less k)
  where
    less : (k : ℕ) → k ≡ suc k - 1
    less k = omega arith

no_run : (file : List ℕ) (p k : ℕ) → 0 < k → number_at file p ≡ none → Whole (run_of file p k) → ⊥
no_run file p k h e w = subst Whole (run_suc file p k h ∙ ap (λ o. run_on (number_limit + 1) p o (λ q. run_of file q (k - 1))) e) w

split : (file : List ℕ) (p k x : ℕ) → 0 < k → number_at file p ≡ some x → Whole (run_of file p k) → Split file p k x
unfolding cells_of
split file p k x h e w = go (ltb x (number_limit + 1)) refl (run_of file (behind p x) (k - 1)) refl
  where
    is : (b : Bool) → ltb x (number_limit + 1) ≡ b → (r : Run) → run_of file (behind p x) (k - 1) ≡ r
        → run_of file p k ≡ cond b (on_run x r) (broken (record { number = 4; place = p }))
    is b f r g =
        run_suc file p k h ∙ ap (λ o. run_on (number_limit + 1) p o (λ q. run_of file q (k - 1))) e
        ∙ ap (λ b. cond b (on_run x (run_of file (behind p x) (k - 1))) (broken (record { number = 4; place = p }))) f
        ∙ ap (λ r. cond b (on_run x r) (broken (record { number = 4; place = p }))) g

    go : (b : Bool) → ltb x (number_limit + 1) ≡ b → (r : Run) → run_of file (behind p x) (k - 1) ≡ r → Split file p k x
    go true f (whole xs q) g =
        record {
          rest = subst Whole (sym g) tt;
          cells = ap cells_of (is true f (whole xs q) g) ∙ ap (λ l. number_cell x ∷ l) (sym (ap cells_of g));
        }
    go true f (broken r) g = absurd (subst Whole (is true f (broken r) g) w)
    go false f r g = absurd (subst Whole (is false f r g) w)

module _ {file : List ℕ} {at count p i : ℕ} {cells : List ℕ} (h : Head file at count p i cells) where
  -- a number stands where one is to come
  pub head_some : i < count → ((x : ℕ) → NumberAt file p x → ⊥) → ⊥
  head_some l a = no_run file p (count - i) (omega arith) (none_standing file p a) h.todo

  pub head_turn : i < count → (number : Number) (c : ℕ) → Stands file p number → c ≡ number_cell number.value
      → Head file at count number.next (i + 1) (set cells i c)
  unfolding behind
  head_turn l number c s f =
      let x : ℕ = number.value in
      let t = split file p (count - i) x (omega arith) (standing_complete file p x s.0) h.todo in
      record {
        inside = rw s.1 (behind_inside file p x h.inside s.0).1;
        few = omega arith;
        same = length-set cells i c ∙ h.same;
        todo = subst (λ k. Whole (run_of file number.next k)) (less count i) (subst (λ q. Whole (run_of file q (count - i - 1))) (sym s.1) t.rest);
        written =
            ap (λ l. l ++ cells_of (run_of file number.next (count - (i + 1)))) (ap (λ j. take j (set cells i c)) (add-one i) ∙ take-suc-set cells i c (omega (arith, h.same)))
            ∙ append_assoc (take i cells) (c ∷ []) (cells_of (run_of file number.next (count - (i + 1))))
            ∙ ap (λ l. take i cells ++ l) (
            ap (λ z. z ∷ cells_of (run_of file number.next (count - (i + 1)))) f
            ∙ ap (λ k. number_cell x ∷ cells_of (run_of file number.next k)) (sym (less count i))
            ∙ ap (λ q. number_cell x ∷ cells_of (run_of file q (count - i - 1))) s.1
            ∙ sym t.cells
            )
            ∙ h.written;
      }
    where
      less : (k i : ℕ) → k - i - 1 ≡ k - (i + 1)
      less k i = omega arith

  pub head_done : count ≤ i → cells ≡ cells_of (run_of file at count)
  unfolding run_of numbers_at cells_of
  head_done l =
      sym (take-length cells) ∙ ap (λ k. take k cells) (h.same ∙ sym all) ∙ sym (append-nil (take i cells))
      ∙ ap (λ k. take i cells ++ cells_of (run_of file p k)) (sym none_left) ∙ h.written
    where
      none_left : count - i ≡ 0
      none_left = omega arith

      all : i ≡ count
      all = omega (arith, h.few)

-- ── The cell of a number ──

pub cell_zero : (x : ℕ) → x ≡ 0 → 4294967295 ≡ number_cell x
unfolding number_cell
cell_zero x e = rw (eq-eqb x 0 e) refl

pub cell_some : (x : ℕ) → (x ≡ 0 → ⊥) → x - 1 ≡ number_cell x
unfolding number_cell
cell_some x e = rw (ne_eqb x 0 e) refl
