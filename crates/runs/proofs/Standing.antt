-- The number that stands at a place, computed, is theory's.
--   standing_sound, standing_complete : `number_at` gives x exactly if x is written there (theory, `NumberAt`)
--   none_standing                     : where no number is written none stands
--   behind_inside                     : the place behind a number is in the file
-- Assumes nothing.
use mathlib.Core.Path.{◌≡◌, refl, sym, ◌∙◌, ap, subst}
use mathlib.Core.Logic.{by_cases}
use mathlib.Core.Bool.{Bool, true, false, cond, true≢false}
use mathlib.Core.Option.{Option, none, some, some-injective, none-ne-some}
use mathlib.Core.List.{List, [], ◌∷◌, ◌++◌}
use Prim.Native.Nat.{ℕ, zero, suc, ◌+◌, ◌-◌, ◌*◌, ◌/◌, ◌%◌, ◌^◌, ◌≤◌, ◌<◌}
use native.Mathlib.Decide.{dec_lt}
use native.Mathlib.Nat.{pow-suc}
use native.Mathlib.Omega.{arith}
use lib.Dec.{eqb, leb}
use lib.ListN.{length, drop, length-drop, length-append}
use borrow.Author.Tests.{eq-eqb, lt-ltb, le-ltb, le-leb, eqb-true, leb-true}
use Rattle.theory.specs.Files.{number_limit, groups, number_bytes, NumberAt}
use Rattle.theory.proofs.RefusalLaws.{and_true}
use Rattle.numbers.proofs.NumberLaws.{groups_last, groups_next, number_some}
use Rattle.runs.specs.Runs.{on_groups, value_of, begins, is_written, if_written, number_in, number_at, behind}

-- ── Bytes that begin with others ──

begins_rest : (bs bytes : List ℕ) → begins bs bytes ≡ true → (rest : List ℕ) × (bytes ≡ bs ++ rest)
unfolding begins
begins_rest [] bytes e = (bytes, refl)
begins_rest (b ∷ bs) [] e = absurd (true≢false (sym e))
begins_rest (b ∷ bs) (a ∷ l) e =
    let h = and_true (eqb a b) (begins bs l) e in
    let r = begins_rest bs l h.1 in
    (r.0, ap (λ z. z ∷ l) (eqb-true a b h.0) ∙ ap (λ m. b ∷ m) r.1)

begins_self : (bs rest : List ℕ) → begins bs (bs ++ rest) ≡ true
unfolding begins
begins_self [] rest = refl
begins_self (b ∷ bs) rest = rw (eq-eqb b b refl) (begins_self bs rest)

-- ── The value of a number's bytes ──

value_groups : (d x : ℕ) (rest : List ℕ) → x < 128 ^ suc d → value_of (suc d) (groups (suc d) x ++ rest) ≡ some x
unfolding value_of
value_groups zero x rest h =
    ap (λ l. value_of 1 (l ++ rest)) (groups_last 0 x (omega arith)) ∙ rw (lt-ltb x 128 (omega arith)) refl
value_groups (suc d) x rest h =
    by_cases (dec_lt x 128) (λ s. ap (λ l. value_of (suc (suc d)) (l ++ rest)) (groups_last (suc d) x s) ∙ rw (lt-ltb x 128 s) refl)
    (λ s. ap (λ l. value_of (suc (suc d)) (l ++ rest)) (groups_next (suc d) x (omega arith))
    ∙ rw (le-ltb (x % 128 + 128) 128 (omega arith)) (ap (on_groups (x % 128 + 128 - 128)) (value_groups d (x / 128) rest (omega (arith, pow-suc 128 (suc d)))))
    ∙ ap some (whole x))
  where
    whole : (x : ℕ) → x % 128 + 128 - 128 + 128 * (x / 128) ≡ x
    whole x = omega arith

-- ── The number at a place ──

pub standing_complete : (file : List ℕ) (p x : ℕ) → NumberAt file p x → number_at file p ≡ some x
unfolding number_at number_in is_written number_bytes
standing_complete file p x a =
    ap number_in a.written
    ∙ ap (if_written (number_bytes x ++ a.rest)) (value_groups 4 x a.rest (omega (arith, a.fits)))
    ∙ rw (le-leb x number_limit a.fits) (rw (begins_self (number_bytes x) a.rest) refl)

pub standing_sound : (file : List ℕ) (p x : ℕ) → number_at file p ≡ some x → NumberAt file p x
unfolding number_at number_in is_written
standing_sound file p x e = go (value_of 5 (drop p file)) e
  where
    is : (z : ℕ) → cond (is_written z (drop p file)) (some z) none ≡ some x → (b : Bool) → is_written z (drop p file) ≡ b → NumberAt file p x
    is z f true w =
        let h = and_true (leb z number_limit) (begins (number_bytes z) (drop p file)) w in
        let s = some-injective _ _ (sym (ap (λ b. cond b (some z) none) w) ∙ f) in
        let r = begins_rest (number_bytes z) (drop p file) h.1 in
        subst (λ z. NumberAt file p z) s (record { fits = leb-true z number_limit h.0; rest = r.0; written = r.1 })
    is z f false w = absurd (none-ne-some _ (sym (ap (λ b. cond b (some z) none) w) ∙ f))

    go : (o : Option ℕ) → if_written (drop p file) o ≡ some x → NumberAt file p x
    go none f = absurd (none-ne-some _ f)
    go (some z) f = is z f (is_written z (drop p file)) refl

-- where no number is written none stands
pub none_standing : (file : List ℕ) (p : ℕ) → ((x : ℕ) → NumberAt file p x → ⊥) → number_at file p ≡ none
none_standing file p a = go (number_at file p) refl
  where
    go : (o : Option ℕ) → number_at file p ≡ o → o ≡ none
    go none e = refl
    go (some x) e = absurd (a x (standing_sound file p x e))

pub behind_inside : (file : List ℕ) (p x : ℕ) → p ≤ length file → NumberAt file p x → (p < behind p x) × (behind p x ≤ length file)
unfolding behind
behind_inside file p x h a =
    let e = sym (length-drop p file) ∙ ap length a.written ∙ length-append (number_bytes x) a.rest in
    (omega (arith, number_some x), omega (arith, e))
