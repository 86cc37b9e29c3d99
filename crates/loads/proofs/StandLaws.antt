-- Numbers that stand in a file one behind the other (`specs/Causes`), place by place.
--   Stand file p xs <-> the numbers xs stand from byte p on; end_from p xs == the place behind them
--   stand_of_starts, starts_of_stand, end_is : at the start of the file that is `Starts`, and the place is `end_of`
--   stand_front, stand_back, stand_join, end_append : a run of numbers behind another
--   stand_one, end_up, end_inside            : two runs of one length from one place are one; a place behind is no less, and in the file
-- Assumes nothing.
use mathlib.Core.Path.{◌≡◌, refl, sym, ◌∙◌, ap, subst}
use mathlib.Core.Option.{Option, none, some, some-injective, none-ne-some}
use mathlib.Core.List.{List, [], ◌∷◌, ◌++◌, append_assoc}
use Prim.Native.Nat.{ℕ, ◌+◌, ◌≤◌, ◌<◌}
use native.Mathlib.Omega.{arith}
use lib.ListN.{length, drop, length-append}
use lib.Seq.{drop-append_seam, drop-drop}
use Rattle.theory.specs.Files.{number_bytes, numbers_bytes, Cause10}
use Rattle.numbers.proofs.NumberLaws.{number_some}
use Rattle.runs.specs.Runs.{number_at, behind}
use Rattle.runs.proofs.Standing.{standing_sound, standing_complete, behind_inside}
use Rattle.loads.specs.Causes.{AllFit, Starts, end_of, Missing}

abbrev pub Stand : List ℕ → ℕ → List ℕ → Type 0
Stand file p [] = Unit {0}
Stand file p (x ∷ xs) = (number_at file p ≡ some x) × Stand file (behind p x) xs

abbrev pub end_from : ℕ → List ℕ → ℕ
end_from p [] = p
end_from p (x ∷ xs) = end_from (behind p x) xs

-- two numbers at one place are one
pub same_number : (file : List ℕ) (p : ℕ) {x y : ℕ} → number_at file p ≡ some x → number_at file p ≡ some y → x ≡ y
same_number file p e f = some-injective _ _ (sym e ∙ f)

pub no_number : {A : Type 0} (file : List ℕ) (p : ℕ) {x : ℕ} → number_at file p ≡ none → number_at file p ≡ some x → A
no_number file p e f = absurd (none-ne-some _ (sym e ∙ f))

-- ── From the start of the file ──

-- behind a number its rest stands
rest_behind : (file : List ℕ) (p x : ℕ) (rest : List ℕ) → drop p file ≡ number_bytes x ++ rest → drop (behind p x) file ≡ rest
unfolding behind
rest_behind file p x rest e =
    sym (drop-drop (length (number_bytes x)) p file) ∙ ap (drop (length (number_bytes x))) e ∙ drop-append_seam (number_bytes x) rest

stand_from : (file : List ℕ) (p : ℕ) (xs rest : List ℕ) → AllFit xs → drop p file ≡ numbers_bytes xs ++ rest → Stand file p xs
unfolding numbers_bytes
stand_from file p [] rest f e = _
stand_from file p (x ∷ xs) rest f e =
    let w = e ∙ append_assoc (number_bytes x) (numbers_bytes xs) rest in (
      standing_complete file p x (record { fits = f.0; rest = numbers_bytes xs ++ rest; written = w }),
      stand_from file (behind p x) xs rest f.1 (rest_behind file p x (numbers_bytes xs ++ rest) w),
    )

from_stand : (file : List ℕ) (p : ℕ) (xs : List ℕ) → Stand file p xs → (rest : List ℕ) × AllFit xs × (drop p file ≡ numbers_bytes xs ++ rest)
unfolding numbers_bytes
from_stand file p [] h = (drop p file, tt, refl)
from_stand file p (x ∷ xs) h =
    let a = standing_sound file p x h.0 in
    let r = from_stand file (behind p x) xs h.1 in (
      r.0,
      (a.fits, r.1),
      a.written
          ∙ ap (λ l. number_bytes x ++ l) (sym (rest_behind file p x a.rest a.written) ∙ r.2)
          ∙ sym (append_assoc (number_bytes x) (numbers_bytes xs) r.0),
    )

pub stand_of_starts : {file xs : List ℕ} → Starts file xs → Stand file 0 xs
stand_of_starts {file} {xs} s = stand_from file 0 xs s.rest s.fit s.written

pub starts_of_stand : {file : List ℕ} (xs : List ℕ) → Stand file 0 xs → Starts file xs
starts_of_stand {file} xs h = let r = from_stand file 0 xs h in record { fit = r.1; rest = r.0; written = r.2 }

pub end_length : (p : ℕ) (xs : List ℕ) → end_from p xs ≡ p + length (numbers_bytes xs)
unfolding numbers_bytes behind
end_length p [] = omega arith
end_length p (x ∷ xs) = end_length (behind p x) xs ∙ omega (arith, length-append (number_bytes x) (numbers_bytes xs))

pub end_is : (xs : List ℕ) → end_from 0 xs ≡ end_of xs
end_is xs = end_length 0 xs ∙ omega arith

-- ── Runs behind each other ──

pub stand_front : (file : List ℕ) (p : ℕ) (xs ys : List ℕ) → Stand file p (xs ++ ys) → Stand file p xs
stand_front file p [] ys h = _
stand_front file p (x ∷ xs) ys h = (h.0, stand_front file (behind p x) xs ys h.1)

pub stand_back : (file : List ℕ) (p : ℕ) (xs ys : List ℕ) → Stand file p (xs ++ ys) → Stand file (end_from p xs) ys
stand_back file p [] ys h = h
stand_back file p (x ∷ xs) ys h = stand_back file (behind p x) xs ys h.1

pub stand_join : (file : List ℕ) (p : ℕ) (xs ys : List ℕ) → Stand file p xs → Stand file (end_from p xs) ys → Stand file p (xs ++ ys)
stand_join file p [] ys h k = k
stand_join file p (x ∷ xs) ys h k = (h.0, stand_join file (behind p x) xs ys h.1 k)

pub end_append : (p : ℕ) (xs ys : List ℕ) → end_from p (xs ++ ys) ≡ end_from (end_from p xs) ys
end_append p [] ys = refl
end_append p (x ∷ xs) ys = end_append (behind p x) xs ys

pub stand_one : (file : List ℕ) (p : ℕ) (xs ys : List ℕ) → length xs ≡ length ys → Stand file p xs → Stand file p ys → xs ≡ ys
stand_one file p [] [] e h k = refl
stand_one file p [] (y ∷ ys) e h k = absurd (omega (arith, e))
stand_one file p (x ∷ xs) [] e h k = absurd (omega (arith, e))
stand_one file p (x ∷ xs) (y ∷ ys) e h k =
    let z = same_number file p h.0 k.0 in
    ap (λ x. x ∷ xs) z
    ∙ ap (λ l. y ∷ l) (stand_one file (behind p y) xs ys (omega (arith, e)) (subst (λ x. Stand file (behind p x) xs) z h.1) k.1)

pub behind_up : (p x : ℕ) → p < behind p x
unfolding behind
behind_up p x = omega (arith, number_some x)

pub end_up : (p : ℕ) (xs : List ℕ) → p ≤ end_from p xs
end_up p [] = omega arith
end_up p (x ∷ xs) = omega (arith, behind_up p x, end_up (behind p x) xs)

pub end_inside : (file : List ℕ) (p : ℕ) (xs : List ℕ) → p ≤ length file → Stand file p xs → end_from p xs ≤ length file
end_inside file p [] h s = h
end_inside file p (x ∷ xs) h s =
    end_inside file (behind p x) xs (behind_inside file p x h (standing_sound file p x s.0)).1 s.1

-- ── No number ──

pub cause_ten : (file : List ℕ) (p : ℕ) → p ≤ length file → number_at file p ≡ none → Cause10 file p
cause_ten file p h e = (h, λ x a. no_number file p e (standing_complete file p x a))

pub none_of_ten : (file : List ℕ) (p : ℕ) → Cause10 file p → number_at file p ≡ none
none_of_ten file p c = go (number_at file p) refl
  where
    go : (o : Option ℕ) → number_at file p ≡ o → o ≡ none
    go none e = refl
    go (some x) e = absurd (c.1 x (standing_sound file p x e))

pub missing_of : {file : List ℕ} (xs : List ℕ) {p : ℕ} → Stand file 0 xs → p ≡ end_from 0 xs → number_at file p ≡ none → Missing file xs p
missing_of {file} xs {p} s e f =
    (starts_of_stand xs s, e ∙ end_is xs, cause_ten file p (subst (λ q. q ≤ length file) (sym e) (end_inside file 0 xs (omega arith) s)) f)

-- what `Missing` says, place by place
pub missing_told : {file : List ℕ} (xs : List ℕ) {p : ℕ} → Missing file xs p → Stand file 0 xs × (p ≡ end_from 0 xs) × (number_at file p ≡ none)
missing_told {file} xs {p} m = (stand_of_starts m.0, m.1 ∙ sym (end_is xs), none_of_ten file p m.2)
