-- Runs of numbers, written and read back (`specs/Runs`; theory's `numbers_bytes`).
--   number_read, number_left : a number that is written stands there, and behind it stands what was behind it; bytes_left : so of any bytes
--   number_written           : a number that stands there is written there
--   numbers_read             : numbers written one behind the other are read as that run
--   Stands, numbers_written  : a run that was read is written there: its numbers, then what stands behind it
-- Assumes nothing.
use mathlib.Core.Path.{◌≡◌, refl, sym, ◌∙◌, ap, subst}
use mathlib.Core.Option.{Option, none, some}
use mathlib.Core.List.{List, [], ◌∷◌, ◌++◌, append_assoc}
use Prim.Native.Nat.{ℕ, zero, suc, ◌+◌, ◌≤◌}
use native.Mathlib.Omega.{arith}
use lib.ListN.{length, drop, length-append}
use lib.Seq.{drop-append_seam, drop-drop}
use borrow.Author.Tests.{lt-ltb}
use Rattle.theory.specs.Files.{number_limit, number_bytes, numbers_bytes}
use Rattle.theory.proofs.ListTexts.{LettersBelow}
use Rattle.numbers.proofs.Numbers.{AllFit}
use Rattle.runs.specs.Runs.{whole, on_run, run_on, number_at, behind, numbers_at, Whole, values_of, place_of}
use Rattle.runs.proofs.Standing.{standing_sound, standing_complete}
use Rattle.runs.proofs.RunLaws.{no_run, split}

-- ── One number ──

-- behind some bytes stands what was behind them
pub bytes_left : (file bytes rest : List ℕ) (p : ℕ) → drop p file ≡ bytes ++ rest → drop (p + length bytes) file ≡ rest
bytes_left file bytes rest p e = sym (drop-drop (length bytes) p file) ∙ ap (drop (length bytes)) e ∙ drop-append_seam bytes rest

pub number_read : (file rest : List ℕ) (p x : ℕ) → x ≤ number_limit → drop p file ≡ number_bytes x ++ rest → number_at file p ≡ some x
number_read file rest p x h e = standing_complete file p x (record { fits = h; rest = rest; written = e })

pub number_left : (file rest : List ℕ) (p x : ℕ) → drop p file ≡ number_bytes x ++ rest → drop (behind p x) file ≡ rest
unfolding behind
number_left file rest p x e = bytes_left file (number_bytes x) rest p e

-- what stands at p is the number, and then what stands behind it
pub number_written : (file : List ℕ) (p x : ℕ) → number_at file p ≡ some x → (x ≤ number_limit) × (drop p file ≡ number_bytes x ++ drop (behind p x) file)
number_written file p x e =
    let a = standing_sound file p x e in
    (a.fits, a.written ∙ ap (λ l. number_bytes x ++ l) (sym (number_left file a.rest p x a.written)))

-- ── A run ──

pub numbers_read : (limit : ℕ) (file rest : List ℕ) (p : ℕ) (xs : List ℕ) → AllFit xs → LettersBelow limit xs → drop p file ≡ numbers_bytes xs ++ rest
    → numbers_at limit file p (length xs) ≡ whole xs (p + length (numbers_bytes xs))
unfolding numbers_at numbers_bytes behind
numbers_read limit file rest p [] a b e = ap (whole []) (more p)
  where
    more : (p : ℕ) → p ≡ p + 0
    more p = omega arith
numbers_read limit file rest p (x ∷ xs) a b e =
    ap (λ o. run_on limit p o (λ q. numbers_at limit file q (length xs))) (number_read file (numbers_bytes xs ++ rest) p x a.0 here)
    ∙ rw (lt-ltb x limit b.0)
    (ap (on_run x) (numbers_read limit file rest (behind p x) xs a.1 b.1 (number_left file (numbers_bytes xs ++ rest) p x here))
    ∙ ap (whole (x ∷ xs)) place)
  where
    here : drop p file ≡ number_bytes x ++ (numbers_bytes xs ++ rest)
    here = e ∙ append_assoc (number_bytes x) (numbers_bytes xs) rest

    place : behind p x + length (numbers_bytes xs) ≡ p + length (number_bytes x ++ numbers_bytes xs)
    place = omega (arith, length-append (number_bytes x) (numbers_bytes xs))

-- k numbers, each below the limit, stand from p up to q
pub record Stands (limit : ℕ) (file : List ℕ) (p k : ℕ) (xs : List ℕ) (q : ℕ) : Type 0 where
  pub many : length xs ≡ k
  pub fit : AllFit xs
  pub below : LettersBelow limit xs
  pub bytes : drop p file ≡ numbers_bytes xs ++ drop q file

run_written : (limit : ℕ) (file : List ℕ) (p k : ℕ) → Whole (numbers_at limit file p k)
    → Stands limit file p k (values_of (numbers_at limit file p k)) (place_of (numbers_at limit file p k))
unfolding numbers_at numbers_bytes
run_written limit file p zero w = record { many = refl; fit = tt; below = tt; bytes = refl }
run_written limit file p (suc k) w = go (λ q v. run_written limit file q k v) (number_at file p) refl
  where
    go : ((q : ℕ) → Whole (numbers_at limit file q k) → Stands limit file q k (values_of (numbers_at limit file q k)) (place_of (numbers_at limit file q k)))
        → (o : Option ℕ) → number_at file p ≡ o
        → Stands limit file p (suc k) (values_of (numbers_at limit file p (suc k))) (place_of (numbers_at limit file p (suc k)))
    go next none e = absurd (no_run limit file p (suc k) (omega arith) e w)
    go next (some x) e =
        let t = split limit file p (suc k) k x refl e w in
        let s = next (behind p x) t.rest in
        let a = number_written file p x e in
        let xs : List ℕ = values_of (numbers_at limit file (behind p x) k) in
        let q : ℕ = place_of (numbers_at limit file (behind p x) k) in
        subst (λ l. Stands limit file p (suc k) l (place_of (numbers_at limit file p (suc k)))) (sym t.values)
        (subst (λ z. Stands limit file p (suc k) (x ∷ xs) z) (sym t.place)
        (record {
          many = ap suc s.many;
          fit = (a.0, s.fit);
          below = (t.below, s.below);
          bytes = a.1 ∙ ap (λ l. number_bytes x ++ l) s.bytes ∙ sym (append_assoc (number_bytes x) (numbers_bytes xs) (drop q file));
        }))

pub numbers_written : (limit : ℕ) (file : List ℕ) (p k : ℕ) (xs : List ℕ) (q : ℕ) → numbers_at limit file p k ≡ whole xs q → Stands limit file p k xs q
numbers_written limit file p k xs q e =
    subst (λ r. Stands limit file p k (values_of r) (place_of r)) e (run_written limit file p k (subst Whole (sym e) tt))
