-- Laws of signed places (`specs/Places`): each is that of an edge outside the paths, and their numbers are those of the expression.
--   place_small             : a place is far below 2³¹
--   letter_in               : a letter that leads somewhere is one of the table's, and leads to one of its points
--   placed_one, placed_none : an edge that no path uses has one place, another edge none
--   places_at               : every place of a word that reads is that of an edge outside the paths
--   places_noted            : its numbers are what is noted along the word
-- Assumes nothing.
use mathlib.Core.Path.{◌≡◌, refl, sym, ◌∙◌, ap, subst}
use mathlib.Core.Logic.{⊎_elim, by_cases}
use mathlib.Core.Bool.{Bool, true, false, not}
use mathlib.Core.Option.{some, none-ne-some}
use mathlib.Core.List.{List, [], ◌∷◌, ◌++◌, map}
use Prim.Native.Nat.{ℕ, suc, ◌+◌, ◌-◌, ◌*◌, ◌/◌, ◌%◌, ◌≤◌, ◌<◌}
use native.Mathlib.Decide.{ℕ_discrete}
use native.Mathlib.Numerals.{add-one}
use native.Mathlib.Omega.{arith}
use lib.Arith.{digits_div, digits_mod}
use lib.IntN.{ℤ, pos, negsuc, neg_ℤ, nat_abs}
use lib.ListN.{length, length-map}
use borrow.Author.Tests.{eq-eqb, ne_eqb, not-true, not-false}
use Rattle.std.proofs.lemmas.List.{map-append}
use Rattle.theory.specs.Words.{inv}
use Rattle.theory.specs.Letters.{usual}
use Rattle.theory.specs.Tables.{absent, Cells, cell, Leads, end_of}
use Rattle.theory.specs.Graphs.{is_lower}
use Rattle.theory.specs.Basis.{Spot, is_edge, is_path_edge, outside_edges, number_in, crossing, crossings}
use Rattle.theory.proofs.WordLaws.{by_test, letters}
use Rattle.theory.proofs.PlaceLaws.{passes_fails}
use Rattle.theory.proofs.TableLaws.{length_usual, get_or_usual, row_below}
use Rattle.theory.proofs.DistinctLaws.{get_or_mem}
use Rattle.theory.proofs.PathLaws.{Setting, spot, inverses, leads_in}
use Rattle.theory.proofs.EdgeLaws.{
  number_at_lem,
  PathEdge,
  path_edge_back,
  is_path_edge_sound,
  is_path_edge_complete,
  capital_inverse,
  edge_cases,
  distinct_outside,
}
use Rattle.theory.proofs.BasisLaws.{path_crossing}
use Rattle.tables.specs.Lent.{IsLent}
use Rattle.tables.proofs.LentLaws.{product_small, IsSound, sound_setting}
use Rattle.edges.specs.Edges.{is_outside}
use Rattle.expressions.specs.Places.{signed_by, place_of, placed, places_from, number_at, numbered, AtEdge, AllAtEdge}
use Rattle.expressions.proofs.SignLaws.{is_back}

-- a word that reads goes on from where its first letter leads
pub end_step : (c : Cells) (v y : ℕ) (w : List ℕ) (x : ℕ) → end_of c v (y ∷ w) ≡ some x → (c v y ≡ absent → ⊥) × (end_of c (c v y) w ≡ some x)
unfolding end_of
end_step c v y w x e =
    by_cases (ℕ_discrete (c v y) absent)
    (λ z. absurd (none-ne-some x (rw (eq-eqb (c v y) absent z) at e)))
    (λ z. (z, rw (ne_eqb (c v y) absent z) at e))

-- a place of the table is far below 2³¹
pub place_small : {n N v y : ℕ} {t : List ℕ} → IsLent n N t → v < N → y < 2 * n → v * (2 * n) + y + 1 ≤ 54526004
place_small {n} {N} {v} L hv hy =
    omega (arith, row_below N (2 * n) v hv, product_small L)

-- the inverse of a letter is a letter
pub inverse_in : (n y : ℕ) → y < 2 * n → inv y < 2 * n
unfolding inv
inverse_in n y h = omega arith

-- the place of an edge read forwards, and of one read backwards
module _ (n v y x : ℕ) where
  pub place_forth : y % 2 ≡ 0 → pos (v * (2 * n) + y + 1) ≡ place_of n v y x
  unfolding place_of
  place_forth e = rw (eq-eqb (y % 2) 0 e) (ap pos (add-one (v * (2 * n) + y)))

  pub place_back_lem : {z : ℕ} → (y % 2 ≡ 0 → ⊥) → z ≡ inv y → neg_ℤ (pos (x * (2 * n) + z + 1)) ≡ place_of n v y x
  unfolding place_of
  place_back_lem {z} e h =
      rw (ne_eqb (y % 2) 0 e)
      (ap (λ k. neg_ℤ (pos k)) (add-one (x * (2 * n) + z)) ∙ ap (λ k. negsuc (x * (2 * n) + k)) h)

-- the number of the edge at a place, where the place's size is known
module _ (n N : ℕ) (t : List ℕ) (z : ℤ) {m : ℕ} (e : m ≡ nat_abs z) where
  -- its number, with the sign of the place
  pub number_signed : {k : ℕ} {b : Bool} → k ≡ number_in (outside_edges (cell n N t) N (usual n)) 1 ((m - 1) / (2 * n)) ((m - 1) % (2 * n)) → b ≡ is_back z
      → signed_by b k ≡ numbered n N t z
  unfolding number_at
  number_signed {k} {b} h f =
      ap (λ j. signed_by j k) f ∙ ap (signed_by (is_back z)) (h ∙ ap (λ j. number_at n N t (j - 1)) e) ∙ at z
    where
      at : (u : ℤ) → signed_by (is_back u) (number_at n N t (nat_abs u - 1)) ≡ numbered n N t u
      at (pos j) = refl
      at (negsuc j) = ap (λ i. neg_ℤ (pos (number_at n N t i))) (let q : suc j - 1 ≡ j = omega arith in q)

module _ {n N : ℕ} {t : List ℕ} (S : IsSound n N t) where
  -- short names for the table in hand
  abbrev c : Cells
  c = cell n N t

  abbrev ys : List ℕ
  ys = usual n

  abbrev listed : List Spot
  listed = outside_edges c N ys

  setting : Setting (cell n N t) N (usual n)
  setting = sound_setting S

  pub letter_in : (v y : ℕ) → (cell n N t v y ≡ absent → ⊥) → (v < N) × (y < 2 * n) × (cell n N t v y < N)
  letter_in v y h =
      let b = leads_in setting v y (c v y) (refl, h) in
      let i : b.2.0 < 2 * n = omega (arith, b.2.1, length_usual n) in
      (b.0, omega (arith, get_or_usual n b.2.0 i, b.2.2), b.1)

  -- ── One letter ──

  pub placed_one : (v y : ℕ) → is_outside (cell n N t) N (usual n) v y ≡ true → placed n N t v y ≡ place_of n v y (cell n N t v y) ∷ []
  unfolding placed
  placed_one v y e = rw e

  pub placed_none : (v y : ℕ) → is_outside (cell n N t) N (usual n) v y ≡ false → placed n N t v y ≡ []
  unfolding placed
  placed_none v y e = rw e

  pub placed_few : (v y : ℕ) → length (placed n N t v y) ≤ 1
  placed_few v y =
      by_test (is_outside c N ys v y) (λ e. omega (arith, ap length (placed_one v y e))) (λ e. omega (arith, ap length (placed_none v y e)))

  -- nothing is noted for an edge that a path uses
  passed : (v y : ℕ) → Leads c v y (c v y) → is_outside c N ys v y ≡ false → crossing c N ys v y ≡ []
  unfolding is_outside
  passed v y l e =
      path_crossing setting v y (c v y) l
      (is_path_edge_sound c N ys v y (c v y) refl ((inverses setting).back v y (c v y) l).0 (not-false _ e))

  -- no path uses the edge
  no_path : (v y : ℕ) → Leads c v y (c v y) → is_outside c N ys v y ≡ true → PathEdge c N ys v y (c v y) → ⊥
  unfolding is_outside
  no_path v y l e p =
      passes_fails (is_path_edge_complete c N ys v y (c v y) refl ((inverses setting).back v y (c v y) l).0 p)
      (not-true (is_path_edge c N ys v y) e)

  -- nor does one use it the other way
  outside_back : (v y x : ℕ) → Leads c v y x → is_outside c N ys v y ≡ true → is_outside c N ys x (inv y) ≡ true
  unfolding is_outside
  outside_back v y x l e =
      let b = (inverses setting).back v y x l in
      by_test (is_path_edge c N ys x (inv y))
      (λ q. passes_fails
      (is_path_edge_complete c N ys v y x l.0 b.0
      (subst (λ z. PathEdge c N ys v z x) (letters.twice y)
      (path_edge_back c N ys x (inv y) v (is_path_edge_sound c N ys x (inv y) v b.0 (ap (λ z. c v z) (letters.twice y) ∙ l.0) q))))
      (not-true (is_path_edge c N ys v y) e))
      (λ q. ap not q)

  -- an edge outside the paths has a number
  number_there : (v y : ℕ) → Leads c v y (c v y) → is_lower y ≡ true → is_outside c N ys v y ≡ true → (k : ℕ) × (number_in listed 1 v y ≡ suc k)
  number_there v y l e o =
      ⊎_elim (λ p. absurd (no_path v y l o p))
      (λ m. let p = get_or_mem (spot 0 0) m in
      (p.0, omega (arith, number_at_lem listed 1 p.0 v y (distinct_outside setting) p.1 p.2)))
      (edge_cases setting v y (c v y) l e)

  -- the number at a cell's place is that of its edge
  number_place : (v y : ℕ) → y < 2 * n → number_at n N t (v * (2 * n) + y) ≡ number_in listed 1 v y
  unfolding number_at
  number_place v y h =
      ap (λ u. number_in listed 1 u ((v * (2 * n) + y) % (2 * n))) (digits_div v h)
      ∙ ap (λ u. number_in listed 1 v u) (digits_mod v h)

  -- the place of an edge outside the paths
  at_place : (z : ℤ) (v y : ℕ) → nat_abs z ≡ suc (v * (2 * n) + y) → Leads c v y (c v y) → is_lower y ≡ true → is_outside c N ys v y ≡ true → AtEdge n N t z
  at_place z v y e l q o =
      record {
        some_place = omega arith;
        small = omega (arith, place_small S.lent b.0 b.1);
        point = subst (λ u. u < N) (sym d) b.0;
        edge =
            ap (λ u. is_edge c (spot u ((nat_abs z - 1) % (2 * n)))) d
            ∙ ap (λ u. is_edge c (spot v u)) m
            ∙ rw (q, ne_eqb (c v y) absent l.1);
        outside = ap (λ u. is_outside c N ys u ((nat_abs z - 1) % (2 * n))) d ∙ ap (λ u. is_outside c N ys v u) m ∙ o;
      }
    where
      b : (v < N) × (y < 2 * n) × (c v y < N)
      b = letter_in v y l.1

      i : nat_abs z - 1 ≡ v * (2 * n) + y
      i = omega arith

      d : (nat_abs z - 1) / (2 * n) ≡ v
      d = ap (λ k. k / (2 * n)) i ∙ digits_div v b.1

      m : (nat_abs z - 1) % (2 * n) ≡ y
      m = ap (λ k. k % (2 * n)) i ∙ digits_mod v b.1

  -- what is noted for an edge outside the paths is the number at its place
  crossed : (v y : ℕ) → Leads c v y (c v y) → is_outside c N ys v y ≡ true
      → (crossing c N ys v y ≡ numbered n N t (place_of n v y (c v y)) ∷ []) × AtEdge n N t (place_of n v y (c v y))
  unfolding crossing place_of
  crossed v y l o = by_test (is_lower y) forth back
    where
      b : (v < N) × (y < 2 * n) × (c v y < N)
      b = letter_in v y l.1

      forth : is_lower y ≡ true → (crossing c N ys v y ≡ numbered n N t (place_of n v y (c v y)) ∷ []) × AtEdge n N t (place_of n v y (c v y))
      forth e =
          let p = number_there v y l e o in
          let s : numbered n N t (pos (suc (v * (2 * n) + y))) ≡ pos (suc p.0) = ap pos (ap (number_at n N t) (let j : suc (v * (2 * n) + y) - 1 ≡ v * (2 * n) + y = omega arith in j) ∙ number_place v y b.1 ∙ p.1) in
          rw e (rw p.1 (ap (λ z. z ∷ []) (sym s)), at_place (pos (suc (v * (2 * n) + y))) v y refl l e o)

      back : is_lower y ≡ false → (crossing c N ys v y ≡ numbered n N t (place_of n v y (c v y)) ∷ []) × AtEdge n N t (place_of n v y (c v y))
      back e =
          let r = (inverses setting).back v y (c v y) l in
          let k : Leads c (c v y) (inv y) (c (c v y) (inv y)) = subst (λ u. Leads c (c v y) (inv y) u) (sym r.0) r in
          let f = capital_inverse y e in
          let u = outside_back v y (c v y) l o in
          let p = number_there (c v y) (inv y) k f u in
          let s : numbered n N t (negsuc (c v y * (2 * n) + inv y)) ≡ negsuc p.0 = ap (λ j. neg_ℤ (pos j)) (number_place (c v y) (inv y) (inverse_in n y b.1) ∙ p.1) in
          rw e (rw p.1 (ap (λ z. z ∷ []) (sym s)), at_place (negsuc (c v y * (2 * n) + inv y)) (c v y) (inv y) refl k f u)

  -- ── A word ──

  all_append : (k l : List ℤ) → AllAtEdge n N t k → AllAtEdge n N t l → AllAtEdge n N t (k ++ l)
  all_append [] l a b = b
  all_append (z ∷ k) l a b = (a.0, all_append k l a.1 b)

  pub places_at : (w : List ℕ) (v x : ℕ) → end_of (cell n N t) v w ≡ some x → AllAtEdge n N t (places_from n N t v w)
  unfolding places_from
  places_at [] v x e = tt
  places_at (y ∷ w) v x e =
      let s = end_step c v y w x e in
      all_append (placed n N t v y) (places_from n N t (c v y) w)
      (by_test (is_outside c N ys v y)
      (λ o. subst (AllAtEdge n N t) (sym (placed_one v y o)) ((crossed v y (refl, s.0) o).1, tt))
      (λ o. subst (AllAtEdge n N t) (sym (placed_none v y o)) tt))
      (places_at w (c v y) x s.1)

  pub places_noted : (w : List ℕ) (v x : ℕ) → end_of (cell n N t) v w ≡ some x → map (numbered n N t) (places_from n N t v w) ≡ crossings (cell n N t) N (usual n) v w
  unfolding places_from crossings
  places_noted [] v x e = refl
  places_noted (y ∷ w) v x e =
      let s = end_step c v y w x e in
      map-append (numbered n N t) (placed n N t v y) (places_from n N t (c v y) w)
      ∙ ap (λ l. map (numbered n N t) (placed n N t v y) ++ l) (places_noted w (c v y) x s.1)
      ∙ ap (λ l. l ++ crossings c N ys (c v y) w)
      (by_test (is_outside c N ys v y)
      (λ o. ap (map (numbered n N t)) (placed_one v y o) ∙ sym (crossed v y (refl, s.0) o).0)
      (λ o. ap (map (numbered n N t)) (placed_none v y o) ∙ sym (passed v y (refl, s.0) o)))

  -- as many numbers as places
  pub places_count : (w : List ℕ) → end_of (cell n N t) 0 w ≡ some 0 → length (places_from n N t 0 w) ≡ length (crossings (cell n N t) N (usual n) 0 w)
  places_count w e = sym (length-map (places_from n N t 0 w) (numbered n N t)) ∙ ap length (places_noted w 0 0 e)
