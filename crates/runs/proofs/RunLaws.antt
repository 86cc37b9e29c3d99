-- Whole runs (`specs/Runs`).
--   no_run      : where no number stands no run of some numbers is whole
--   Split, split : a whole run of some numbers is the first, below the limit, and a whole run behind it
--   Sized, run_sized : a whole run has as many numbers as were asked for; each takes a byte at least, and all lie in the file
-- Assumes nothing.
use mathlib.Core.Path.{◌≡◌, refl, sym, ◌∙◌, ap, subst}
use mathlib.Core.Bool.{Bool, true, false, cond}
use mathlib.Core.Option.{Option, none, some}
use mathlib.Core.List.{List, ◌∷◌}
use Prim.Native.Nat.{ℕ, zero, suc, ◌+◌, ◌-◌, ◌≤◌, ◌<◌}
use native.Mathlib.Omega.{arith}
use lib.Dec.{ltb}
use lib.ListN.{length}
use borrow.Author.Tests.{ltb-true}
use Rattle.runs.specs.Runs.{Run, broken, whole, broken_at, on_run, run_on, number_at, behind, numbers_at, Whole, values_of, place_of}
use Rattle.runs.proofs.Standing.{standing_sound, behind_inside}
use Rattle.runs.proofs.SkipTurn.{numbers_suc}

pub no_run : (limit : ℕ) (file : List ℕ) (p k : ℕ) → 0 < k → number_at file p ≡ none → Whole (numbers_at limit file p k) → ⊥
no_run limit file p k h e w =
    subst Whole (numbers_suc limit file p k h ∙ ap (λ o. run_on limit p o (λ q. numbers_at limit file q (k - 1))) e) w

-- j is one less than k
pub record Split (limit : ℕ) (file : List ℕ) (p k j x : ℕ) : Type 0 where
  pub below : x < limit
  pub rest : Whole (numbers_at limit file (behind p x) j)
  pub values : values_of (numbers_at limit file p k) ≡ x ∷ values_of (numbers_at limit file (behind p x) j)
  pub place : place_of (numbers_at limit file p k) ≡ place_of (numbers_at limit file (behind p x) j)

pub split : (limit : ℕ) (file : List ℕ) (p k j x : ℕ) → k ≡ suc j → number_at file p ≡ some x → Whole (numbers_at limit file p k)
    → Split limit file p k j x
unfolding numbers_at
split limit file p k j x h e w = go (ltb x limit) refl (numbers_at limit file (behind p x) j) refl
  where
    is : (b : Bool) → ltb x limit ≡ b → (r : Run) → numbers_at limit file (behind p x) j ≡ r
        → numbers_at limit file p k ≡ cond b (on_run x r) (broken_at 4 p)
    is b f r g =
        ap (numbers_at limit file p) h ∙ ap (λ o. run_on limit p o (λ q. numbers_at limit file q j)) e
        ∙ ap (λ b. cond b (on_run x (numbers_at limit file (behind p x) j)) (broken_at 4 p)) f
        ∙ ap (λ r. cond b (on_run x r) (broken_at 4 p)) g

    go : (b : Bool) → ltb x limit ≡ b → (r : Run) → numbers_at limit file (behind p x) j ≡ r → Split limit file p k j x
    go true f (whole xs q) g =
        record {
          below = ltb-true x limit f;
          rest = subst Whole (sym g) tt;
          values = ap values_of (is true f (whole xs q) g) ∙ ap (λ l. x ∷ l) (sym (ap values_of g));
          place = ap place_of (is true f (whole xs q) g) ∙ sym (ap place_of g);
        }
    go true f (broken r) g = absurd (subst Whole (is true f (broken r) g) w)
    go false f r g = absurd (subst Whole (is false f r g) w)

-- what a run of k numbers from p on has, if it is whole
pub record Sized (file : List ℕ) (p k : ℕ) (run : Run) : Type 0 where
  pub many : length (values_of run) ≡ k
  pub low : p + k ≤ place_of run
  pub inside : place_of run ≤ length file

pub run_sized : (limit : ℕ) (file : List ℕ) (p k : ℕ) → p ≤ length file → Whole (numbers_at limit file p k) → Sized file p k (numbers_at limit file p k)
unfolding numbers_at
run_sized limit file p zero h w = record { many = refl; low = omega arith; inside = h }
run_sized limit file p (suc k) h w = go (λ q a b. run_sized limit file q k a b) (number_at file p) refl
  where
    go : ((q : ℕ) → q ≤ length file → Whole (numbers_at limit file q k) → Sized file q k (numbers_at limit file q k))
        → (o : Option ℕ) → number_at file p ≡ o → Sized file p (suc k) (numbers_at limit file p (suc k))
    go next none e = absurd (no_run limit file p (suc k) (omega arith) e w)
    go next (some x) e =
        let t = split limit file p (suc k) k x refl e w in
        let b = behind_inside file p x h (standing_sound file p x e) in
        let s = next (behind p x) b.1 t.rest in
        record {
          many = ap length t.values ∙ ap suc s.many;
          low = omega (arith, t.place, s.low, b.0);
          inside = omega (arith, t.place, s.inside);
        }
