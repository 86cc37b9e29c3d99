-- Laws of basis words and of the signed numbers of edges (`specs/Basis`; 004, lemma 3.10).
--   loop_by c N ys v y x     == path of v, letter y, inverse of path of x
--   Outside c N ys k v y   <-> the edge at v and y is number k, counted from 0, of those outside all paths
--   Crossed c N ys v y x k <-> letter y, read from v to x, crosses the edge of the signed number k
--   basis_word_plain         : a basis word is reduced as it stands
--   edge_crossed            : each letter reads an edge of a path, where nothing is noted, or crosses a numbered edge
--   basis_length            : a basis word has at most 2N − 1 letters
-- Assumes nothing.
use mathlib.Core.Path.{◌≡◌, refl, sym, ◌∙◌, ap, subst}
use mathlib.Core.Logic.{◌⊎◌, inl, inr, ⊎_elim}
use mathlib.Core.Bool.{true}
use mathlib.Core.List.Memᴰ
use mathlib.Core.List.{List, [], ◌∷◌, ◌++◌, map, append_assoc, Memᴰ}
use Prim.Native.Nat.{ℕ, zero, suc, ◌-◌, ◌*◌, ◌<◌, ◌≤◌}
use native.Mathlib.Omega.{arith}
use lib.IntN.{ℤ, pos, negsuc, neg_ℤ}
use lib.ListN.{length, get_or, length-append, length-map}
use Rattle.theory.specs.Words.{inv, Reduced, inverse_by, inverse_of, named, Names}
use Rattle.theory.specs.Tables.{Cells, Leads, Reads}
use Rattle.theory.specs.Graphs.{is_lower}
use Rattle.theory.specs.Basis.{Spot, path_of, outside_edges, basis_word, basis_of, number_in, crossing}
use Rattle.theory.proofs.WordLaws.{by_test, letters, reduced_fixed, inverse_append, inverse_inverse}
use Rattle.theory.proofs.ReadLaws.{reads_append, reads_back}
use Rattle.theory.proofs.DistinctLaws.{mem_get_or, get_or_mem}
use Rattle.theory.proofs.PathLaws.{
  none_overlap,
  none_inverse,
  Setting,
  spot,
  Step,
  inverses,
  leads_in,
  path_reads,
  path_length,
  path_on,
  path_reduced,
}
use Rattle.theory.proofs.EdgeLaws.{
  number_none,
  number_at_lem,
  PathEdge,
  path_edge_back,
  lower_inverse,
  capital_inverse,
  outside_mem,
  edge_cases,
  distinct_outside,
}

-- the loop of an edge: the path to v, a letter, and the path of x backwards
abbrev pub loop_by : Cells → ℕ → List ℕ → ℕ → ℕ → ℕ → List ℕ
loop_by c N ys v y x = path_of c N ys v ++ (y ∷ inverse_of (path_of c N ys x))

-- number k, counted from 0, of the edges outside all paths is the edge at v and y
abbrev pub Outside : Cells → ℕ → List ℕ → ℕ → ℕ → ℕ → Type 0
Outside c N ys k v y = (k < length (outside_edges c N ys)) × (get_or (outside_edges c N ys) k (spot 0 0) ≡ spot v y)

-- y, read from v to x, crosses the edge of the signed number k
abbrev pub Crossed : Cells → ℕ → List ℕ → ℕ → ℕ → ℕ → ℤ → Type 0
Crossed c N ys v y x (pos zero) = ⊥
Crossed c N ys v y x (pos (suc k)) = Outside c N ys k v y
Crossed c N ys v y x (negsuc k) = Outside c N ys k x (inv y)

-- equal spots have equal points and letters
ends : (v y x z : ℕ) → spot v y ≡ spot x z → (v ≡ x) × (y ≡ z)
ends v y x z e = (ap (λ (s : Spot). s.point) e, ap (λ (s : Spot). s.letter) e)

get_or_mapped : {A B : Type 0} (f : A → B) (l : List A) (i : ℕ) (a : A) (b : B) → i < length l → get_or (map f l) i b ≡ f (get_or l i a)
get_or_mapped f [] i a b h = absurd (omega arith)
get_or_mapped f (x ∷ l) zero a b h = refl
get_or_mapped f (x ∷ l) (suc i) a b h = get_or_mapped f l i a b (omega arith)

-- the inverse of a word is as long
pub length_inverse : (w : List ℕ) → length (inverse_of w) ≡ length w
unfolding inverse_by
length_inverse [] = refl
length_inverse (y ∷ w) = omega (arith, length-append (inverse_of w) (inv y ∷ []), length_inverse w)

module _ {c : Cells} {N : ℕ} {ys : List ℕ} (S : Setting c N ys) where
  -- short names for the table in hand
  abbrev path : ℕ → List ℕ
  path = path_of c N ys

  abbrev outside : List Spot
  outside = outside_edges c N ys

  abbrev loop : ℕ → ℕ → ℕ → List ℕ
  loop = loop_by c N ys

  abbrev basis : List (List ℕ)
  basis = basis_of c N ys

  -- ── Basis words ──

  -- the loop of an edge outside all paths is reduced as it stands
  pub loop_reduced : (v y x : ℕ) → Leads c v y x → (PathEdge c N ys v y x → ⊥) → Reduced (loop_by c N ys v y x)
  unfolding inverse_by
  loop_reduced v y x l n =
      let b = leads_in S v y x l in
      none_overlap letters (path v) y (inverse_of (path x)) (path_on S v y x l (λ p. n (inr p)) (path_reduced S v b.0))
      (subst Reduced (inverse_append letters (path x) (inv y ∷ []) ∙ ap (λ z. z ∷ inverse_of (path x)) (letters.twice y))
      (none_inverse letters (path x ++ (inv y ∷ [])) (path_on S x (inv y) v ((inverses S).back v y x l) other (path_reduced S x b.1))))
    where
      other : Step c N ys (spot v (inv (inv y))) x → ⊥
      other p = n (inl (subst (λ z. Step c N ys (spot v z) x) (letters.twice y) p))

  -- the loop of an edge leads from the base to the base
  pub loop_reads : (v y x : ℕ) → Leads c v y x → Reads (Leads c) 0 (loop_by c N ys v y x) 0
  loop_reads v y x l =
      let b = leads_in S v y x l in
      reads_append (Leads c) 0 (path v) v (y ∷ inverse_of (path x)) 0 (path_reads S v b.0)
      (x, l, reads_back (inverses S) 0 (path x) x (path_reads S x b.1))

  -- a basis word is reduced as it stands
  pub basis_word_plain : (v y : ℕ) → Memᴰ (spot v y) (outside_edges c N ys) → basis_word c N ys (spot v y) ≡ loop_by c N ys v y (c v y)
  unfolding basis_word
  basis_word_plain v y m =
      let o = outside_mem S v y m in reduced_fixed letters (loop v y (c v y)) (loop_reduced v y (c v y) o.1 o.2)

  -- ── Crossed edges ──

  outside_in_lem : (k v y : ℕ) → Outside c N ys k v y → Memᴰ (spot v y) outside
  outside_in_lem k v y o = Memᴰ.cast (sym o.1) (mem_get_or outside k (spot 0 0) o.0)

  outside_number : (k v y : ℕ) → Outside c N ys k v y → number_in outside 1 v y ≡ suc k
  outside_number k v y o = omega (arith, number_at_lem outside 1 k v y (distinct_outside S) o.0 o.1)

  outside_word : (k v y x : ℕ) → Outside c N ys k v y → Leads c v y x → get_or basis k [] ≡ loop v y x
  unfolding basis_of
  outside_word k v y x o l =
      get_or_mapped (basis_word c N ys) outside k (spot 0 0) [] o.0
      ∙ ap (basis_word c N ys) o.1
      ∙ basis_word_plain v y (outside_in_lem k v y o)
      ∙ ap (loop v y) l.0

  -- an edge read backwards has the inverse number
  pub crossed_back : (v y x : ℕ) (k : ℤ) → Crossed c N ys v y x k → Crossed c N ys x (inv y) v (neg_ℤ k)
  crossed_back v y x (pos zero) o = o
  crossed_back v y x (pos (suc k)) o = subst (λ z. Outside c N ys k v z) (sym (letters.twice y)) o
  crossed_back v y x (negsuc k) o = o

  -- each letter reads an edge of a path, or crosses a numbered edge
  pub edge_crossed : (v y x : ℕ) → Leads c v y x → PathEdge c N ys v y x ⊎ ((k : ℤ) × Crossed c N ys v y x k)
  edge_crossed v y x l =
      by_test (is_lower y) (λ e. ⊎_elim inl (λ o. inr (pos (suc o.0), o.1)) (lower v y x l e))
      (λ e. ⊎_elim (λ p. inl (subst (λ z. PathEdge c N ys v z x) (letters.twice y) (path_edge_back c N ys x (inv y) v p)))
      (λ o. inr (negsuc o.0, o.1)) (lower x (inv y) v ((inverses S).back v y x l) (capital_inverse y e)))
    where
      lower : (v y x : ℕ) → Leads c v y x → is_lower y ≡ true → PathEdge c N ys v y x ⊎ ((k : ℕ) × Outside c N ys k v y)
      lower v y x l e =
          ⊎_elim inl (λ m. let p = get_or_mem (spot 0 0) m in inr (p.0, (p.1, p.2))) (edge_cases S v y x l e)

  -- nothing is noted for a path's edge
  pub path_crossing : (v y x : ℕ) → Leads c v y x → PathEdge c N ys v y x → crossing c N ys v y ≡ []
  unfolding crossing
  path_crossing v y x l p =
      by_test (is_lower y) (λ e. rw (e, none v y x l.0 p))
      (λ e. rw (e, l.0, none x (inv y) v ((inverses S).back v y x l).0 (path_edge_back c N ys v y x p)))
    where
      none : (v y x : ℕ) → c v y ≡ x → PathEdge c N ys v y x → number_in outside 1 v y ≡ 0
      none v y x e p =
          number_none outside 1 v y (λ m. (outside_mem S v y m).2 (subst (λ u. PathEdge c N ys v y u) (sym e) p))

  -- its signed number is noted for a numbered edge
  pub crossed_crossing : (v y x : ℕ) (k : ℤ) → Leads c v y x → Crossed c N ys v y x k → crossing c N ys v y ≡ k ∷ []
  unfolding crossing
  crossed_crossing v y x (pos zero) l o = absurd o
  crossed_crossing v y x (pos (suc k)) l o = rw ((outside_mem S v y (outside_in_lem k v y o)).0, outside_number k v y o)
  crossed_crossing v y x (negsuc k) l o =
      rw (
        sym (ap is_lower (letters.twice y)) ∙ lower_inverse (inv y) (outside_mem S x (inv y) (outside_in_lem k x (inv y) o)).0,
        l.0,
        outside_number k x (inv y) o,
      )

  -- what is noted for an edge read backwards is inverse
  pub crossing_back : (v y x : ℕ) → Leads c v y x → crossing c N ys x (inv y) ≡ inverse_by neg_ℤ (crossing c N ys v y)
  unfolding inverse_by
  crossing_back v y x l =
      let b = (inverses S).back v y x l in
      ⊎_elim (λ p. path_crossing x (inv y) v b (path_edge_back c N ys v y x p) ∙ ap (inverse_by neg_ℤ) (sym (path_crossing v y x l p)))
      (λ o. crossed_crossing x (inv y) v (neg_ℤ o.0) b (crossed_back v y x o.0 o.1)
      ∙ ap (inverse_by neg_ℤ) (sym (crossed_crossing v y x o.0 l o.1)))
      (edge_crossed v y x l)

  -- an edge is crossed by one letter at one point
  pub crossed_one : (v y x u z t : ℕ) (k : ℤ) → Leads c v y x → Leads c u z t → Crossed c N ys v y x k → Crossed c N ys u z t k → (v ≡ u) × (y ≡ z)
  crossed_one v y x u z t (pos zero) l m o p = absurd o
  crossed_one v y x u z t (pos (suc k)) l m o p = ends v y u z (sym o.1 ∙ p.1)
  crossed_one v y x u z t (negsuc k) l m o p =
      let e = ends x (inv y) t (inv z) (sym o.1 ∙ p.1) in
      let q = sym (letters.twice y) ∙ ap inv e.1 ∙ letters.twice z in
      (sym ((inverses S).back v y x l).0 ∙ cc (e.0, e.1) ∙ ((inverses S).back u z t m).0, q)

  -- ── Numbers and their words ──

  -- the loop of an edge read backwards is the inverse loop
  pub loop_back : (v y x : ℕ) → inverse_of (loop_by c N ys x (inv y) v) ≡ loop_by c N ys v y x
  unfolding inverse_by
  loop_back v y x =
      inverse_append letters (path x) (inv y ∷ inverse_of (path v))
      ∙ append_assoc (inverse_of (inverse_of (path v))) (inv (inv y) ∷ []) (inverse_of (path x))
      ∙ rw (inverse_inverse letters (path v), letters.twice y)

  -- the word of the number of an edge is the edge's loop
  pub crossed_named : (v y x : ℕ) (k : ℤ) → Leads c v y x → Crossed c N ys v y x k → named (basis_of c N ys) k ≡ loop_by c N ys v y x
  unfolding named
  crossed_named v y x (pos zero) l o = absurd o
  crossed_named v y x (pos (suc k)) l o = outside_word k v y x o l
  crossed_named v y x (negsuc k) l o =
      ap inverse_of (outside_word k x (inv y) v o ((inverses S).back v y x l)) ∙ loop_back v y x

  length_basis : length basis ≡ length outside
  unfolding basis_of
  length_basis = length-map outside (basis_word c N ys)

  -- it is the number of a basis word
  pub crossed_names : (v y x : ℕ) (k : ℤ) → Crossed c N ys v y x k → Names (length (basis_of c N ys)) k
  crossed_names v y x (pos zero) o = o
  crossed_names v y x (pos (suc k)) o = omega (arith, o.0, length_basis)
  crossed_names v y x (negsuc k) o = omega (arith, o.0, length_basis)

  forwards : (k : ℕ) → k < length basis → (v : ℕ) × (y : ℕ) × (x : ℕ) × Leads c v y x × Outside c N ys k v y
  forwards k h = at (get_or outside k (spot 0 0)) refl
    where
      at : (s : Spot) → get_or outside k (spot 0 0) ≡ s → (v : ℕ) × (y : ℕ) × (x : ℕ) × Leads c v y x × Outside c N ys k v y
      at s e =
          let i : k < length outside = omega (arith, length_basis) in
          let m = outside_in_lem k s.point s.letter (i, e) in
          (s.point, s.letter, c s.point s.letter, (outside_mem S s.point s.letter m).1, (i, e))

  -- each number is that of an edge
  pub names_crossed : (k : ℤ) → Names (length (basis_of c N ys)) k → (v : ℕ) × (y : ℕ) × (x : ℕ) × Leads c v y x × Crossed c N ys v y x k
  names_crossed (pos zero) h = absurd h
  names_crossed (pos (suc k)) h = forwards k h
  names_crossed (negsuc k) h =
      let p = forwards k h in
      (p.2, inv p.1, p.0, (inverses S).back p.0 p.1 p.2 p.3, crossed_back p.0 p.1 p.2 (pos (suc k)) p.4)

  -- a basis word has at most 2N − 1 letters
  pub basis_length : (k : ℕ) → k < length (basis_of c N ys) → length (get_or (basis_of c N ys) k []) ≤ 2 * N - 1
  unfolding named
  basis_length k h =
      let p = names_crossed (pos (suc k)) h in
      let b = leads_in S p.0 p.1 p.2 p.3 in
      rw (crossed_named p.0 p.1 p.2 (pos (suc k)) p.3 p.4)
      (omega (
        arith,
        length-append (path p.0) (p.1 ∷ inverse_of (path p.2)),
        length_inverse (path p.2),
        path_length S p.0 b.0,
        path_length S p.2 b.1,
      ))
