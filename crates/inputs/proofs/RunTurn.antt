-- The turns of `run_end` on plain values: the lines before `at` belong to the run.
-- Assumes nothing.
use mathlib.Core.Path.{◌≡◌, sym, ◌∙◌}
use mathlib.Core.List.{List}
use Prim.Native.Nat.{ℕ, ◌+◌, ◌-◌, ◌<◌, ◌≤◌}
use native.Mathlib.Omega.{arith}
use lib.ListN.{length, get_or, drop}
use Rattle.lists.specs.Counts.{next_start}
use Rattle.inputs.specs.Inputs.{lines_of}
use Rattle.inputs.specs.Parsed.{run_length}
use Rattle.inputs.proofs.MarkLaws.{run_turn, run_stop, run_over}

pub record Head (input : List ℕ) (from mark at : ℕ) : Type 0 where
  pub inside : at ≤ length input
  pub passed : at + run_length mark (lines_of (drop at input)) ≡ from + run_length mark (lines_of (drop from input))

module _ {input : List ℕ} {from mark : ℕ} where
  pub head_turn : {at next : ℕ} → Head input from mark at → at < length input → get_or input at 0 ≡ mark → next ≡ next_start input at → Head input from mark next
  head_turn {at} {next} h l e n =
      let t = run_turn mark input at next l e n in
      record { inside = t.1; passed = sym t.2 ∙ h.passed }

  pub head_stop : {at : ℕ} → Head input from mark at → at < length input → (get_or input at 0 ≡ mark → ⊥) → at ≡ from + run_length mark (lines_of (drop from input))
  head_stop {at} h l e = omega (arith, h.passed, run_stop mark input at l e)

  pub head_end_lem : {at : ℕ} → Head input from mark at → length input ≤ at → at ≡ from + run_length mark (lines_of (drop from input))
  head_end_lem {at} h l = omega (arith, h.passed, run_over mark input at l)

pub head_less : (input : List ℕ) {mark at next : ℕ} → at < length input → get_or input at 0 ≡ mark → next ≡ next_start input at → length input - next < length input - at
head_less input {mark} {at} {next} l e n = let t = run_turn mark input at next l e n in omega (arith, t.0, t.1)
