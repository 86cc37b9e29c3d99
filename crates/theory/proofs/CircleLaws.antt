-- Laws of circles (`specs/Graphs`): what they read, the ways home from their points, and labels for their points.
--   TwoWays E b p   <-> two reduced ways lead from p home to b, with different first letters
--   start_label k ws  == for each point of the circles from k on, the prefix of its reduced word that leads to it
-- Each law of all circles is that of one circle, then that of the rest. Assumes nothing.
use mathlib.Core.Path.{◌≡◌, refl, sym, ◌∙◌, ap, subst}
use mathlib.Core.Logic.{⊎_elim, by_cases}
use mathlib.Core.Bool.{cond}
use mathlib.Core.List.{List, [], ◌∷◌, ◌++◌, append_assoc}
use Prim.Native.Nat.{ℕ, zero, suc, ◌+◌, ◌-◌, ◌<◌, ◌≤◌}
use native.Mathlib.Decide.{dec_lt}
use native.Mathlib.Omega.{arith}
use lib.Dec.{ltb}
use lib.ListN.{length, get_or, take}
use borrow.Author.Tests.{lt-ltb, le-ltb, ne_eqb, eqb-false}
use Rattle.theory.specs.Words.{inv, reduced, Reduced, inverse_by, inverse_of}
use Rattle.theory.specs.Tables.{Reads}
use Rattle.theory.specs.Graphs.{Edge, edge_of, circle, new_points, circles, start_points}
use Rattle.theory.proofs.WordLaws.{letters, reduced_none, reduced_idem}
use Rattle.theory.proofs.ReadLaws.{Steps, reads_append, Subgroup}
use Rattle.theory.proofs.HomeLaws.{StartsNot}
use Rattle.theory.proofs.MemLaws.{◌∈◌, here, further, mem-cons, mem-none, mem-append, mem-left, mem-right}
use Rattle.theory.proofs.GraphLaws.{edge_generator, edge_cases, Within, Turns}
use Rattle.theory.proofs.LabelLaws.{Labelled, self_inverse, labelled_turn}

pub record TwoWays (E : Steps) (b p : ℕ) : Type 0 where
  pub first : ℕ
  pub second : ℕ
  pub on_first : List ℕ
  pub on_second : List ℕ
  pub differ : first ≡ second → ⊥
  pub first_reads : Reads E p (first ∷ on_first) b
  pub second_reads : Reads E p (second ∷ on_second) b
  pub first_reduced : Reduced (first ∷ on_first)
  pub second_reduced : Reduced (second ∷ on_second)

-- ── One circle: from v by y ∷ w to the base ──

module _ (E : Steps) where
  -- the circle reads its word
  circle_loop : (v k y : ℕ) (w : List ℕ) → Within (circle v k (y ∷ w)) E → Reads E v (y ∷ w) 0
  unfolding circle
  circle_loop v k y [] f = (0, f v y 0 (here refl), refl)
  circle_loop v k y (z ∷ w) f =
      (k, f v y k (here refl), circle_loop k (suc k) z w (λ a l b m. f a l b (further m)))

  -- where u leads to v, u and a prefix lead to each point of the circle
  circle_reached : (v k y : ℕ) (w u : List ℕ) → Within (circle v k (y ∷ w)) E → Reads E 0 u v
      → (i : ℕ) → i < length w → Reads E 0 (u ++ take (suc i) (y ∷ w)) (k + i)
  unfolding circle
  circle_reached v k y [] u f r i h = absurd (omega arith)
  circle_reached v k y (z ∷ w) u f r zero h =
      reads_append E 0 u v (y ∷ []) (k + 0) r (k, f v y k (here refl), omega arith)
  circle_reached v k y (z ∷ w) u f r (suc i) h =
      let q : suc k + i ≡ k + suc i = omega arith in
      subst (λ p. Reads E 0 (u ++ (y ∷ take (suc i) (z ∷ w))) p) q
      (subst (λ t. Reads E 0 t (suc k + i)) (append_assoc u (y ∷ []) (take (suc i) (z ∷ w)))
      (circle_reached k (suc k) z w (u ++ (y ∷ [])) (λ a l b m. f a l b (further m))
      (reads_append E 0 u v (y ∷ []) k r (k, f v y k (here refl), refl)) i (omega arith)))

-- a letter's inverse before a reduced word that does not start with the letter
back_reduced : (y : ℕ) (r : List ℕ) → Reduced r → StartsNot y r → Reduced (inv y ∷ r)
back_reduced y [] h s = tt
back_reduced y (a ∷ r) h s = (ne_eqb a (inv (inv y)) (λ e. s (e ∙ letters.twice y)), h)

-- where r leads home from v, one way home from each point of the circle goes on and one goes back
circle_ways : (E : Steps) → Turns E → (v k y : ℕ) (w r : List ℕ) → Within (circle v k (y ∷ w)) E → Reduced (y ∷ w)
    → Reads E v r 0 → Reduced r → StartsNot y r → (i : ℕ) → i < length w → TwoWays E 0 (k + i)
unfolding circle
circle_ways E turn v k y [] r f h way s n i lt = absurd (omega arith)
circle_ways E turn v k y (z ∷ w) r f h way s n zero lt =
    let q : k ≡ k + 0 = omega arith in
    subst (TwoWays E 0) q
    (record {
      first = inv y;
      second = z;
      on_first = r;
      on_second = w;
      differ = λ e. eqb-false z (inv y) h.0 (sym e);
      first_reads = (v, turn v y k (f v y k (here refl)), way);
      second_reads = circle_loop E k (suc k) z w (λ a l b m. f a l b (further m));
      first_reduced = back_reduced y r s n;
      second_reduced = h.1;
    })
circle_ways E turn v k y (z ∷ w) r f h way s n (suc i) lt =
    let q : suc k + i ≡ k + suc i = omega arith in
    subst (TwoWays E 0) q
    (circle_ways E turn k (suc k) z w (inv y ∷ r) (λ a l b m. f a l b (further m)) h.1
    (v, turn v y k (f v y k (here refl)), way) (back_reduced y r s n) (λ e. eqb-false z (inv y) h.0 (sym e))
    i (omega arith))

-- every edge of a circle has a letter
circle_lettered : (v k : ℕ) (w : List ℕ) (e : Edge) → e ∈ circle v k w → 1 ≤ e.generator
unfolding circle
circle_lettered v k [] e m = absurd (mem-none m)
circle_lettered v k (y ∷ []) e m =
    ⊎_elim (λ q. omega (arith, ap (λ (f : Edge). f.generator) q, edge_generator v y 0)) (λ n. absurd (mem-none n))
    (mem-cons m)
circle_lettered v k (y ∷ (z ∷ w)) e m =
    ⊎_elim (λ q. omega (arith, ap (λ (f : Edge). f.generator) q, edge_generator v y k))
    (circle_lettered k (suc k) (z ∷ w) e) (mem-cons m)

-- P holds of each step of the circle
abbrev CircleHolds : Steps → ℕ → ℕ → List ℕ → Type 0
CircleHolds P v k [] = Unit {0}
CircleHolds P v k (y ∷ []) = P v y 0
CircleHolds P v k (y ∷ (z ∷ w)) = P v y k × CircleHolds P k (suc k) (z ∷ w)

module _ (P : Steps) (turn : Turns P) where
  -- what holds of one reading of an edge holds of both
  edge_both : (v y x a l b : ℕ) → P v y x → edge_of a l b ≡ edge_of v y x → P a l b
  edge_both v y x a l b h e =
      ⊎_elim (λ t. rw (t.0, t.1, t.2) h) (λ t. rw (t.0, t.1, t.2) (turn v y x h)) (edge_cases a l b v y x e)

  -- what holds of each step of the circle holds of all that its edges read
  circle_within : (v k : ℕ) (w : List ℕ) → CircleHolds P v k w → Within (circle v k w) P
  unfolding circle
  circle_within v k [] h a l b m = absurd (mem-none m)
  circle_within v k (y ∷ []) h a l b m =
      ⊎_elim (edge_both v y 0 a l b h) (λ n. absurd (mem-none n)) (mem-cons m)
  circle_within v k (y ∷ (z ∷ w)) h a l b m =
      ⊎_elim (edge_both v y k a l b h.0) (circle_within k (suc k) (z ∷ w) h.1 a l b) (mem-cons m)

module _ {H : List ℕ → Type 0} (S : Subgroup H) (label : ℕ → List ℕ) where
  -- prefixes are labels of a circle whose word is in H
  circle_labelled : (v k y : ℕ) (w u : List ℕ) → label 0 ≡ [] → label v ≡ u
      → ((p i : ℕ) → p ≡ k + i → i < length w → label p ≡ u ++ take (suc i) (y ∷ w)) → H (u ++ (y ∷ w))
      → CircleHolds (Labelled H label) v k (y ∷ w)
  unfolding inverse_by
  circle_labelled v k y [] u z e f h = rw (z, e) h
  circle_labelled v k y (x ∷ w) u z e f h = (
    rw (e, f k 0 (omega arith) (omega arith))
        (subst H (append_assoc u (y ∷ []) (inverse_of (u ++ (y ∷ [])))) (self_inverse S (u ++ (y ∷ [])))),
    circle_labelled k (suc k) x w (u ++ (y ∷ [])) z (f k 0 (omega arith) (omega arith))
        (λ p i q lt. f p (suc i) (omega arith) (omega arith) ∙ sym (append_assoc u (y ∷ []) (take (suc i) (x ∷ w))))
        (subst H (sym (append_assoc u (y ∷ []) (x ∷ w))) h),
  )

-- both ends are below n
abbrev pub Below : ℕ → Steps
Below n v y x = (v < n) × (x < n)

circle_below : (n v k y : ℕ) (w : List ℕ) → v < n → k + length w ≤ n → CircleHolds (Below n) v k (y ∷ w)
circle_below n v k y [] h t = (h, omega arith)
circle_below n v k y (z ∷ w) h t = ((h, omega arith), circle_below n k (suc k) z w (omega arith) (omega arith))

-- ── All circles, with new points from k on ──

-- where the new points of the circles after w start
abbrev after_word : ℕ → List ℕ → ℕ
after_word k w = k + new_points (reduced w)

unfoldable pub start_label : ℕ → List (List ℕ) → ℕ → List ℕ
start_label k [] p = []
start_label k (w ∷ ws) p =
    cond (ltb p (after_word k w)) (take (suc p - k) (reduced w)) (start_label (after_word k w) ws p)

-- what comes before the circles has the empty label
pub label_before : (k : ℕ) (ws : List (List ℕ)) (p : ℕ) → p < k → start_label k ws p ≡ []
unfolding start_label
label_before k [] p h = refl
label_before k (w ∷ ws) p h =
    let e : suc p - k ≡ 0 = omega arith in rw (lt-ltb p (after_word k w) (omega arith), e)

module _ (k : ℕ) (w : List ℕ) (ws : List (List ℕ)) (p : ℕ) where
  label_here : p < after_word k w → start_label k (w ∷ ws) p ≡ take (suc p - k) (reduced w)
  unfolding start_label
  label_here h = rw (lt-ltb p (after_word k w) h)

  label_later : after_word k w ≤ p → start_label k (w ∷ ws) p ≡ start_label (after_word k w) ws p
  unfolding start_label
  label_later h = rw (le-ltb p (after_word k w) h)

-- what holds of the first circle and of the rest holds of all that the circles' edges read
circles_both : (P : Steps) (k : ℕ) (w : List ℕ) (ws : List (List ℕ)) → Within (circle 0 k (reduced w)) P
    → Within (circles (after_word k w) ws) P → Within (circles k (w ∷ ws)) P
unfolding circles
circles_both P k w ws f g a l b m = ⊎_elim (f a l b) (g a l b) (mem-append (circle 0 k (reduced w)) m)

module _ (E : Steps) (k : ℕ) (w : List ℕ) (ws : List (List ℕ)) (f : Within (circles k (w ∷ ws)) E) where
  circles_first : Within (circle 0 k (reduced w)) E
  unfolding circles
  circles_first a l b m = f a l b (mem-left (circles (after_word k w) ws) m)

  circles_rest : Within (circles (after_word k w) ws) E
  unfolding circles
  circles_rest a l b m = f a l b (mem-right (circle 0 k (reduced w)) m)

-- there is the base at least
pub points_some : (ws : List (List ℕ)) → 0 < start_points ws
unfolding start_points
points_some [] = omega arith
points_some (w ∷ ws) = omega (arith, points_some ws)

module _ (E : Steps) (turn : Turns E) where
  word_loop : (k : ℕ) (w : List ℕ) → Within (circle 0 k w) E → Reads E 0 w 0
  word_loop k [] f = refl
  word_loop k (y ∷ w) f = circle_loop E 0 k y w f

  -- each reduced word is a loop at the base
  pub circles_loops : (k : ℕ) (ws : List (List ℕ)) → Within (circles k ws) E
      → (i : ℕ) → i < length ws → Reads E 0 (reduced (get_or ws i [])) 0
  circles_loops k [] f i h = absurd (omega arith)
  circles_loops k (w ∷ ws) f zero h = word_loop k (reduced w) (circles_first E k w ws f)
  circles_loops k (w ∷ ws) f (suc i) h = circles_loops (after_word k w) ws (circles_rest E k w ws f) i (omega arith)

  word_point : (k : ℕ) (w : List ℕ) → Reduced w → Within (circle 0 k w) E
      → (p : ℕ) → k ≤ p → p < k + new_points w → TwoWays E 0 p × Reads E 0 (take (suc p - k) w) p
  word_point k [] h f p lo hi = absurd (omega arith)
  word_point k (y ∷ w) h f p lo hi =
      let q : k + (p - k) ≡ p = omega arith in
      let t : suc (p - k) ≡ suc p - k = omega arith in (
        subst (TwoWays E 0) q (circle_ways E turn 0 k y w [] f h refl tt tt (p - k) (omega arith)),
        subst (λ i. Reads E 0 (take i (y ∷ w)) p) t
            (subst (Reads E 0 (y ∷ take (p - k) w)) q (circle_reached E 0 k y w [] f refl (p - k) (omega arith))),
      )

  -- each new point has two ways home and is reached by its label
  pub circles_point : (k : ℕ) (ws : List (List ℕ)) → Within (circles k ws) E
      → (p : ℕ) → k ≤ p → suc p < k + start_points ws → TwoWays E 0 p × Reads E 0 (start_label k ws p) p
  unfolding start_points
  circles_point k [] f p lo hi = absurd (omega arith)
  circles_point k (w ∷ ws) f p lo hi =
      by_cases (dec_lt p (after_word k w))
      (λ lt. rw (label_here k w ws p lt)
      (word_point k (reduced w) (reduced_none letters w) (circles_first E k w ws f) p lo lt))
      (λ ge. rw (label_later k w ws p (omega arith))
      (circles_point (after_word k w) ws (circles_rest E k w ws f) p (omega arith) (omega arith)))

module _ {H : List ℕ → Type 0} (S : Subgroup H) (label : ℕ → List ℕ) (empty : label 0 ≡ []) where
  word_labelled : (k : ℕ) (w : List ℕ) → H w
      → ((p : ℕ) → k ≤ p → p < k + new_points w → label p ≡ take (suc p - k) w) → CircleHolds (Labelled H label) 0 k w
  word_labelled k [] h f = tt
  word_labelled k (y ∷ w) h f = circle_labelled S label 0 k y w [] empty empty part h
    where
      part : (p i : ℕ) → p ≡ k + i → i < length w → label p ≡ take (suc i) (y ∷ w)
      part p i q lt =
          let t : suc p - k ≡ suc i = omega arith in
          f p (omega arith) (omega arith) ∙ ap (λ j. take j (y ∷ w)) t

  -- with the start labels, each edge is labelled where the words are in H
  pub circles_labelled : (k : ℕ) (ws : List (List ℕ)) → ((i : ℕ) → i < length ws → H (get_or ws i []))
      → ((p : ℕ) → k ≤ p → label p ≡ start_label k ws p) → Within (circles k ws) (Labelled H label)
  unfolding circles
  circles_labelled k [] h f = λ a l b m. absurd (mem-none m)
  circles_labelled k (w ∷ ws) h f =
      circles_both (Labelled H label) k w ws
      (circle_within (Labelled H label) (labelled_turn S label) 0 k (reduced w)
      (word_labelled k (reduced w) (S.cong w (reduced w) (sym (reduced_idem letters w)) (h 0 (omega arith)))
      (λ p lo hi. f p lo ∙ label_here k w ws p hi)))
      (circles_labelled (after_word k w) ws (λ i lt. h (suc i) (omega arith))
      (λ p lo. f p (omega arith) ∙ label_later k w ws p lo))

word_below : (n k : ℕ) (w : List ℕ) → 0 < n → k + new_points w ≤ n → CircleHolds (Below n) 0 k w
word_below n k [] h t = tt
word_below n k (y ∷ w) h t = circle_below n 0 k y w h (omega arith)

-- both ends of each edge are below the number of points
pub circles_below : (n k : ℕ) (ws : List (List ℕ)) → 0 < n → k + start_points ws ≤ suc n
    → Within (circles k ws) (Below n)
unfolding circles start_points
circles_below n k [] h t = λ a l b m. absurd (mem-none m)
circles_below n k (w ∷ ws) h t =
    circles_both (Below n) k w ws
    (circle_within (Below n) (λ v y x d. (d.1, d.0)) 0 k (reduced w)
    (word_below n k (reduced w) h (omega (arith, points_some ws))))
    (circles_below n (after_word k w) ws h (omega arith))

-- every edge has a letter
pub circles_lettered : (k : ℕ) (ws : List (List ℕ)) (e : Edge) → e ∈ circles k ws → 1 ≤ e.generator
unfolding circles
circles_lettered k [] e m = absurd (mem-none m)
circles_lettered k (w ∷ ws) e m =
    ⊎_elim (circle_lettered 0 k (reduced w) e) (circles_lettered (after_word k w) ws e)
    (mem-append (circle 0 k (reduced w)) m)
