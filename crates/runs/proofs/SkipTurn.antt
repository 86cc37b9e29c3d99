-- The turns of `skip` on plain values: i numbers are read, and the others stand from p on.
--   Head                         : what these say is what all say
--   head_none, head_beyond, head_turn, head_done
-- Assumes nothing.
use mathlib.Core.Path.{◌≡◌, refl, sym, ◌∙◌, ap}
use mathlib.Core.Bool.{cond}
use mathlib.Core.Option.{Option, none, some}
use mathlib.Core.List.{List}
use Prim.Native.Nat.{ℕ, zero, suc, ◌+◌, ◌-◌, ◌≤◌, ◌<◌}
use native.Mathlib.Omega.{arith}
use lib.ListN.{length}
use borrow.Author.Tests.{lt-ltb, le-ltb}
use Rattle.std.specs.declared.result.Result.TheVariants.{Ok, Err}
use Rattle.numbers.specs.declared.Number.{Number}
use Rattle.numbers.specs.Reads.{ReadAt}
use Rattle.refusals.specs.declared.Cause.TheVariants.{Beyond}
use Rattle.refusals.specs.declared.Refusal.{Refusal}
use Rattle.refusals.specs.Given.{refusal_at}
use Rattle.runs.specs.Runs.{Run, broken, whole, broken_at, on_run, run_on, number_at, behind, numbers_at, skipped_as}
use Rattle.runs.proofs.Standing.{standing_complete, none_standing, behind_inside}

-- a number in front changes nothing of what is said
skipped_on : (x : ℕ) (r : Run) → skipped_as (on_run x r) ≡ skipped_as r
skipped_on x (broken r) = refl
skipped_on x (whole xs q) = refl

-- one number more: what is there decides
pub numbers_suc : (limit : ℕ) (file : List ℕ) (p k : ℕ) → 0 < k
    → numbers_at limit file p k ≡ run_on limit p (number_at file p) (λ q. numbers_at limit file q (k - 1))
unfolding numbers_at
numbers_suc limit file p zero h = absurd (omega arith)
numbers_suc limit file p (suc k) h = ap (λ j. run_on limit p (number_at file p) (λ q. numbers_at limit file q j)) (less k)
  where
    less : (k : ℕ) → k ≡ suc k - 1
    less k = omega arith

-- i numbers are read
pub record Head (file : List ℕ) (at count limit p i : ℕ) : Type 0 where
  pub inside : p ≤ length file
  pub same : skipped_as (numbers_at limit file p (count - i)) ≡ skipped_as (numbers_at limit file at count)

module _ {file : List ℕ} {at count limit p i : ℕ} (h : Head file at count limit p i) where
  -- what stands at p decides
  here : (o : Option ℕ) → i < count → number_at file p ≡ o
      → skipped_as (run_on limit p o (λ q. numbers_at limit file q (count - (i + 1)))) ≡ skipped_as (numbers_at limit file at count)
  here o l e =
      ap (λ o. skipped_as (run_on limit p o (λ q. numbers_at limit file q (count - (i + 1))))) (sym e)
      ∙ ap (λ k. skipped_as (run_on limit p (number_at file p) (λ q. numbers_at limit file q k))) (less count i)
      ∙ sym (ap skipped_as (numbers_suc limit file p (count - i) (omega arith))) ∙ h.same
    where
      less : (count i : ℕ) → count - (i + 1) ≡ count - i - 1
      less count i = omega arith

  pub head_none : i < count → (r : Refusal) → ReadAt file p (Err r) → Err r ≡ skipped_as (numbers_at limit file at count)
  head_none l r a = ap Err a.0 ∙ here none l (none_standing file p a.1)

  module _ (l : i < count) (number : Number) (a : ReadAt file p (Ok number)) where
    pub head_beyond : limit ≤ number.value → Err (refusal_at Beyond p) ≡ skipped_as (numbers_at limit file at count)
    head_beyond b =
        sym (ap (λ b. skipped_as (cond b (on_run number.value (numbers_at limit file (behind p number.value) (count - (i + 1)))) (broken_at 4 p))) (le-ltb number.value limit b))
        ∙ here (some number.value) l (standing_complete file p number.value a.0)

    pub head_turn : number.value < limit → Head file at count limit number.next (i + 1)
    unfolding behind
    head_turn b =
        let x : ℕ = number.value in
        record {
          inside = rw a.1 (behind_inside file p x h.inside a.0).1;
          same = rw a.1 (sym (skipped_on x (numbers_at limit file (behind p x) (count - (i + 1))))
              ∙ sym (ap (λ b. skipped_as (cond b (on_run x (numbers_at limit file (behind p x) (count - (i + 1)))) (broken_at 4 p))) (lt-ltb x limit b))
              ∙ here (some x) l (standing_complete file p x a.0));
        }

pub head_done : {file : List ℕ} {at count limit p i : ℕ} → Head file at count limit p i → count ≤ i → Ok p ≡ skipped_as (numbers_at limit file at count)
unfolding numbers_at
head_done {file} {at} {count} {limit} {p} {i} h l = sym (ap (λ k. skipped_as (numbers_at limit file p k)) (none_left l)) ∙ h.same
  where
    none_left : count ≤ i → count - i ≡ 0
    none_left l = omega arith
