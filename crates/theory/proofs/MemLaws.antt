-- More laws of what is in lists, and of lists without repeats (`DistinctLaws`), by which points and edges are counted.
--   a ∈ l           <-> a is in the list l; it is `here` at the head, or `further` on
--   distinct_within  : a list without repeats is no longer than a list that holds all of it
--   distinct_covers  : nor than a list whose elements are mapped onto all of it
-- The library's laws of membership are passed on under shorter names. Assumes nothing.
use mathlib.Core.Path.{◌≡◌, refl, sym, ◌∙◌, ap, subst}
use mathlib.Core.Logic.{◌⊎◌, inl, inr, ⊎_elim}
use mathlib.Core.List.{List, [], ◌∷◌, map, Memᴰ}
use Prim.Native.Nat.{ℕ, suc, ◌<◌, ◌≤◌}
use native.Mathlib.Decide.{ℕ_discrete}
use native.Mathlib.Omega.{arith}
use lib.ListN.{length, get_or, length-map}
use Rattle.theory.proofs.DistinctLaws.{Distinct, get_or_mem, mem_map, map_mem}
pub use mathlib.Core.List.Memᴰ.{cases_cons as mem-cons}
pub use mathlib.Core.List.Memᴰ.{head as here}
pub use mathlib.Core.List.Memᴰ.{tail as further}
pub use mathlib.Core.List.Memᴰ.{append_cases as mem-append}
pub use mathlib.Core.List.Memᴰ.{cast as mem-cast}
pub use mathlib.Core.List.Memᴰ.{not-nil as mem-none}
pub use mathlib.Core.List.Memᴰ.{append_left as mem-left}
pub use mathlib.Core.List.Memᴰ.{append_right as mem-right}

infix 20 ◌∈◌
abbrev pub ◌∈◌ : {A : Type 0} → A → List A → Type 0
a ∈ l = Memᴰ a l

module _ {A : Type 0} where
  -- a list of which every two places differ has no repeats
  pub places_distinct : (d : A) (l : List A)
      → ((i j : ℕ) → i < length l → j < length l → get_or l i d ≡ get_or l j d → i ≡ j) → Distinct l
  places_distinct d [] f = tt
  places_distinct d (a ∷ l) f = (
    λ m. let p = get_or_mem d m in absurd (omega (arith, f 0 (suc p.0) (omega arith) (omega arith) (sym p.2))),
    places_distinct d l (λ i j hi hj e. omega (arith, f (suc i) (suc j) (omega arith) (omega arith) e)),
  )

  -- a list without one of its elements
  mem_rest : {a : A} {l : List A} → a ∈ l
      → (r : List A) × (length l ≡ suc (length r)) × ((b : A) → b ∈ l → (b ≡ a) ⊎ (b ∈ r))
  mem_rest (here {xs = xs} e) = (xs, refl, λ b m. ⊎_elim (λ p. inl (p ∙ sym e)) inr (mem-cons m))
  mem_rest (further {x = x} m) =
      let r = mem_rest m in (
        x ∷ r.0,
        ap suc r.1,
        λ b n. ⊎_elim (λ p. inr (here p)) (λ t. ⊎_elim inl (λ k. inr (further k)) (r.2 b t)) (mem-cons n),
      )

  -- a list without repeats is no longer than a list that holds all of it
  pub distinct_within : (l k : List A) → Distinct l → ((a : A) → a ∈ l → a ∈ k) → length l ≤ length k
  distinct_within [] k s f = omega arith
  distinct_within (a ∷ l) k s f =
      let r = mem_rest (f a (here refl)) in
      let q = distinct_within l r.0 s.1 (λ b m. other b m (r.2 b (f b (further m)))) in
      omega (arith, r.1)
    where
      other : {r : List A} (b : A) → b ∈ l → (b ≡ a) ⊎ (b ∈ r) → b ∈ r
      other b m = ⊎_elim (λ e. absurd (s.0 (mem-cast (sym e) m))) (λ n. n)

module _ {A B : Type 0} where
  -- a list without repeats, each of whose elements is the image of some element of another, is no longer than that
  pub distinct_covers : (g : B → A) (l : List A) (k : List B) → Distinct l
      → ((a : A) → a ∈ l → (b : B) × (b ∈ k) × (g b ≡ a)) → length l ≤ length k
  distinct_covers g l k s f =
      subst (λ n. length l ≤ n) (length-map k g)
      (distinct_within l (map g k) s (λ a m. let b = f a m in mem-cast (sym b.2) (mem_map g b.1)))

  -- an image has no repeats where the map tells the list's elements apart
  pub distinct_image : (f : A → B) (l : List A) → Distinct l → ((a b : A) → a ∈ l → b ∈ l → f a ≡ f b → a ≡ b)
      → Distinct (map f l)
  distinct_image f [] s i = tt
  distinct_image f (a ∷ l) s i = (
    λ m. let b = map_mem f l m in s.0 (mem-cast (i a b.0 (here refl) (further b.1) b.2) b.1),
    distinct_image f l s.1 (λ b c m n e. i b c (further m) (further n) e),
  )

-- whether a number is in a list
pub mem_dec : (a : ℕ) (l : List ℕ) → Dec (a ∈ l)
mem_dec a [] = no mem-none
mem_dec a (b ∷ l) = go (ℕ_discrete a b) (mem_dec a l)
  where
    go : Dec (a ≡ b) → Dec (a ∈ l) → Dec (a ∈ (b ∷ l))
    go (yes e) r = yes (here e)
    go (no n) (yes m) = yes (further m)
    go (no n) (no k) = no (λ m. ⊎_elim n k (mem-cons m))
