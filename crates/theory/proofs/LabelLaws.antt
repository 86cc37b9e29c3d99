-- Laws of labels: a word for each point, with label, letter, inverse label in a subgroup H for each step.
--   Labelled H l == the steps from v by y to x with l v, y, inverse of l x in H
--   alike_swap    : where u and v differ by an element of H, u may stand for v at the start of an element
-- Two words u and v differ by an element of H where u, inverse v is in H. Assumes nothing.
use mathlib.Core.Path.{◌≡◌, sym, ◌∙◌, ap, subst}
use mathlib.Core.List.{List, [], ◌∷◌, ◌++◌, append_assoc, append-nil}
use Prim.Native.Nat.{ℕ}
use Rattle.theory.specs.Words.{inv, reduced_by, reduced, inverse_by, inverse_of}
use Rattle.theory.proofs.WordLaws.{letters, gone_between}
use Rattle.theory.proofs.WordLaws.{inverse_append, inverse_inverse, inverse_left, inverse_right}
use Rattle.theory.proofs.ReadLaws.{Steps, Subgroup}
use Rattle.theory.proofs.GraphLaws.{Turns}

abbrev pub Labelled : (List ℕ → Type 0) → (ℕ → List ℕ) → Steps
Labelled H label v y x = H (label v ++ (y ∷ inverse_of (label x)))

module _ {H : List ℕ → Type 0} (S : Subgroup H) where
  -- a word with its inverse is in H
  pub self_inverse : (w : List ℕ) → H (w ++ inverse_of w)
  unfolding reduced_by
  self_inverse w = S.cong [] (w ++ inverse_of w) (sym (inverse_right letters w)) S.empty

  -- a labelled step is labelled both ways
  pub labelled_turn : (label : ℕ → List ℕ) → Turns (Labelled H label)
  unfolding inverse_by
  labelled_turn label v y x h = subst H turned (S.inverse (label v ++ (y ∷ inverse_of (label x))) h)
    where
      turned : inverse_of (label v ++ (y ∷ inverse_of (label x))) ≡ label x ++ (inv y ∷ inverse_of (label v))
      turned =
          inverse_append letters (label v) (y ∷ inverse_of (label x))
          ∙ append_assoc (inverse_of (inverse_of (label x))) (inv y ∷ []) (inverse_of (label v))
          ∙ ap (λ t. t ++ (inv y ∷ inverse_of (label v))) (inverse_inverse letters (label x))

  -- where u and v differ by an element, u may stand for v at an element's start
  pub alike_swap : (u v t : List ℕ) → H (u ++ inverse_of v) → H (v ++ t) → H (u ++ t)
  alike_swap u v t h k = S.cong ((u ++ inverse_of v) ++ (v ++ t)) (u ++ t) cancelled (S.append _ _ h k)
    where
      grouped : (r : List ℕ) → (u ++ r) ++ (v ++ t) ≡ u ++ ((r ++ v) ++ t)
      grouped r = simp append_assoc

      cancelled : reduced ((u ++ inverse_of v) ++ (v ++ t)) ≡ reduced (u ++ t)
      cancelled =
          ap reduced (grouped (inverse_of v)) ∙ gone_between letters u (inverse_of v ++ v) t (inverse_left letters v)

  -- what differs by an element from an element is one
  pub alike_in : (u v : List ℕ) → H (u ++ inverse_of v) → H v → H u
  alike_in u v h k = subst H (append-nil u) (alike_swap u v [] h (subst H (sym (append-nil v)) k))

  -- differing by an element goes both ways
  pub alike_sym : (u v : List ℕ) → H (u ++ inverse_of v) → H (v ++ inverse_of u)
  alike_sym u v h = subst H (turned (inverse_inverse letters v)) (S.inverse (u ++ inverse_of v) h)
    where
      turned : inverse_of (inverse_of v) ≡ v → inverse_of (u ++ inverse_of v) ≡ v ++ inverse_of u
      turned e = inverse_append letters u (inverse_of v) ∙ ap (λ r. r ++ inverse_of u) e

  -- a word and a letter, grouped with what follows
  snoc_in : (u t : List ℕ) (y : ℕ) → H (u ++ (y ∷ t)) → H ((u ++ (y ∷ [])) ++ t)
  snoc_in u t y h = subst H (sym (append_assoc u (y ∷ []) t)) h

  -- label, letter, inverse label, with other labels that differ by elements
  pub alike_step : (u u' t t' : List ℕ) (y : ℕ) → H (u ++ inverse_of u') → H (t' ++ inverse_of t)
      → H (u' ++ (y ∷ inverse_of t')) → H (u ++ (y ∷ inverse_of t))
  alike_step u u' t t' y h k m =
      subst H (append_assoc u (y ∷ []) (inverse_of t))
      (alike_swap (u ++ (y ∷ [])) t' (inverse_of t)
      (snoc_in u (inverse_of t') y (alike_swap u u' (y ∷ inverse_of t') h m)) k)

  -- two points to which one letter leads from one point have labels that differ by an element
  pub alike_ends : (u s t : List ℕ) (y : ℕ) → H (u ++ (y ∷ inverse_of s)) → H (u ++ (y ∷ inverse_of t))
      → H (s ++ inverse_of t)
  alike_ends u s t y h k =
      alike_swap s (u ++ (y ∷ [])) (inverse_of t) (alike_sym (u ++ (y ∷ [])) s (snoc_in u (inverse_of s) y h))
      (snoc_in u (inverse_of t) y k)
