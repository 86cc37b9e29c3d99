-- Laws of edges read by letters (`specs/Graphs`).
--   letter_along e == the lower-case letter that reads e from its source to its target
--   start_end y e  == the end of e from which the letter y reads it; other_end y e == the end to which
--   edge_along     : an edge is what its letter reads from its source to its target
--   along_back     : what a letter reads, its inverse reads back
--   Within es E   <-> what the edges es read, E reads
--   Turns E       <-> what a letter reads in E, its inverse reads back
--   edge_cases     : one edge, read in two ways, is read the same way, or there and back
-- Assumes nothing.
use mathlib.Core.Path.{◌≡◌, refl, sym, ◌∙◌, ap, subst}
use mathlib.Core.Logic.{◌⊎◌, inl, inr, by_cases}
use mathlib.Core.Bool.{true, false, cond}
use mathlib.Core.List.{List}
use Prim.Native.Nat.{ℕ, ◌-◌, ◌*◌, ◌%◌, ◌≤◌}
use native.Mathlib.Decide.{ℕ_discrete}
use native.Mathlib.Omega.{arith}
use borrow.Author.Tests.{eq-eqb}
use Rattle.theory.specs.Words.{inv}
use Rattle.theory.specs.Graphs.{Edge, is_lower, generator_of, edge_of, Along}
use Rattle.theory.proofs.WordLaws.{by_test}
use Rattle.theory.proofs.ReadLaws.{Steps}
use Rattle.theory.proofs.EdgeLaws.{lower_inverse, capital_inverse}
use Rattle.theory.proofs.MemLaws.{mem-cast}

-- an edge is given by its three numbers
pub edge_path : {e f : Edge} → e.source ≡ f.source → e.generator ≡ f.generator → e.target ≡ f.target → e ≡ f
edge_path p q r = λ i. record { source = p i; generator = q i; target = r i }

abbrev pub letter_along : Edge → ℕ
letter_along e = 2 * (e.generator - 1)

abbrev pub start_end : ℕ → Edge → ℕ
start_end y e = cond (is_lower y) e.source e.target

unfoldable pub other_end : ℕ → Edge → ℕ
other_end y e = cond (is_lower y) e.target e.source

module _ (v y x : ℕ) where
  -- a lower-case letter reads an edge from its source
  pub edge_lower : is_lower y ≡ true → edge_of v y x ≡ record { source = v; generator = generator_of y; target = x }
  unfolding edge_of
  edge_lower e = rw e

  -- a capital reads it from its target
  pub edge_upper : is_lower y ≡ false → edge_of v y x ≡ record { source = x; generator = generator_of y; target = v }
  unfolding edge_of
  edge_upper e = rw e

  -- the edge that a letter reads has the letter's generator
  pub edge_generator : (edge_of v y x).generator ≡ generator_of y
  unfolding edge_of
  edge_generator = by_test (is_lower y) (λ e. rw e) (λ e. rw e)

  -- it is read from the first point
  pub edge_start : start_end y (edge_of v y x) ≡ v
  unfolding edge_of
  edge_start = by_test (is_lower y) (λ e. rw e) (λ e. rw e)

  -- to the last
  pub edge_other : other_end y (edge_of v y x) ≡ x
  unfolding edge_of other_end
  edge_other = by_test (is_lower y) (λ e. rw e) (λ e. rw e)

inverse_generator : (y : ℕ) → generator_of (inv y) ≡ generator_of y
unfolding inv
inverse_generator y = omega arith

-- the inverse letter reads the same edge backwards
pub edge_back : (v y x : ℕ) → edge_of x (inv y) v ≡ edge_of v y x
edge_back v y x =
    by_test (is_lower y)
    (λ l. edge_upper x (inv y) v (lower_inverse y l) ∙ generator ∙ sym (edge_lower v y x l))
    (λ l. edge_lower x (inv y) v (capital_inverse y l) ∙ generator ∙ sym (edge_upper v y x l))
  where
    generator : {a b : ℕ} → ◌≡◌ {A = Edge} (record { source = a; generator = generator_of (inv y); target = b })
        (record { source = a; generator = generator_of y; target = b })
    generator = edge_path refl (inverse_generator y) refl

-- an edge of a letter's generator is what the letter reads between its ends
pub edge_ends : (y : ℕ) (e : Edge) → e.generator ≡ generator_of y → edge_of (start_end y e) y (other_end y e) ≡ e
unfolding edge_of other_end
edge_ends y e g =
    by_test (is_lower y) (λ l. rw l (edge_path refl (sym g) refl)) (λ l. rw l (edge_path refl (sym g) refl))

-- an edge is what its letter reads from its source to its target
pub edge_along : (e : Edge) → 1 ≤ e.generator → edge_of e.source (letter_along e) e.target ≡ e
edge_along e h =
    edge_lower e.source (letter_along e) e.target (eq-eqb (letter_along e % 2) 0 (omega arith))
    ∙ edge_path refl (omega arith) refl

abbrev pub Within : List Edge → Steps → Type 0
Within es E = (v y x : ℕ) → Along es v y x → E v y x

abbrev pub Turns : Steps → Type 0
Turns E = (v y x : ℕ) → E v y x → E x (inv y) v

-- what a letter reads along edges, its inverse reads back
pub along_back : {es : List Edge} → Turns (Along es)
along_back v y x m = mem-cast (edge_back v y x) m

-- one edge, read in two ways: the same way, or there and back
pub edge_cases : (a y b v z x : ℕ) → edge_of a y b ≡ edge_of v z x
    → ((a ≡ v) × (y ≡ z) × (b ≡ x)) ⊎ ((a ≡ x) × (y ≡ inv z) × (b ≡ v))
unfolding inv
edge_cases a y b v z x e =
    by_cases (ℕ_discrete y z)
    (λ q. let t = ends a b (subst (λ l. edge_of a l b ≡ edge_of v z x) q e) in inl (t.0, q, t.1))
    (λ n. let g = sym (edge_generator a y b) ∙ ap (λ (f : Edge). f.generator) e ∙ edge_generator v z x in
    let q : y ≡ inv z = omega arith in
    let t = ends b a (sym (edge_back b z a) ∙ subst (λ l. edge_of a l b ≡ edge_of v z x) q e) in inr (t.1, q, t.0))
  where
    ends : (c d : ℕ) → edge_of c z d ≡ edge_of v z x → (c ≡ v) × (d ≡ x)
    ends c d f = (
      sym (edge_start c z d) ∙ ap (start_end z) f ∙ edge_start v z x,
      sym (edge_other c z d) ∙ ap (other_end z) f ∙ edge_other v z x,
    )
