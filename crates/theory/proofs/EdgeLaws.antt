-- Laws of scans, of edges, and of the edges that paths use (`specs/Basis`).
--   PathEdge c N ys v y x <-> letter y reads from v to x the last step of a path, forwards or backwards
--   those_mem, mem_those   : the spots that pass a test are the members that pass
--   number_none, number_at_lem : the number of a spot that stands nowhere in a list, and of one that stands at a place
--   is_path_edge_sound, is_path_edge_complete : the computed test for the edges that paths use
--   outside_mem, edge_cases : an edge is a path's or stands outside all paths
--   basis_count            : there are as many basis words as the rank says
-- Assumes nothing.
use mathlib.Core.Path.{◌≡◌, refl, sym, ◌∙◌, ap, subst}
use mathlib.Core.Logic.{◌⊎◌, inl, inr, ⊎_elim, by_cases}
use mathlib.Core.Bool.{Bool, true, false, cond, not, ◌&&◌, true≢false, or-true}
use mathlib.Core.Option.{Option, none, some}
use mathlib.Core.List.Memᴰ
use mathlib.Core.List.{
  List,
  [],
  ◌∷◌,
  map,
  Memᴰ,
}
use Prim.Native.Nat.{ℕ, zero, suc, ◌+◌, ◌-◌, ◌%◌, ◌<◌}
use native.Mathlib.Decide.{ℕ_discrete}
use native.Mathlib.Omega.{arith}
use lib.Dec.{eqb}
use lib.ListN.{length, get_or, length-map}
use borrow.Author.Tests.{eq-eqb, ne_eqb, eqb-true, eqb-false, not-true}
use Rattle.theory.specs.Words.{inv}
use Rattle.theory.specs.Letters.{up_to}
use Rattle.theory.specs.Tables.{absent, Cells, Leads}
use Rattle.theory.specs.Graphs.{is_lower}
use Rattle.theory.specs.Basis.{
  Spot,
  spots_of,
  scan,
  first_met,
  is_spot,
  is_path_step,
  is_path_edge,
  those,
  is_edge,
  edges_of,
  outside_edges,
  basis_word,
  basis_of,
  number_in,
  rank_of,
}
use Rattle.theory.proofs.WordLaws.{by_test, letters}
use Rattle.theory.proofs.RefusalLaws.{and_true}
use Rattle.theory.proofs.PlaceLaws.{passes_fails, fails, tells_itself, tells_or}
use Rattle.theory.proofs.TableLaws.{StandsIn, Once, length-up_to}
use Rattle.theory.proofs.DistinctLaws.{
  Distinct,
  mem_get_or,
  distinct_append,
  mem_map,
  map_mem,
  distinct_map,
  paired_length,
  distinct_once,
  up_to_mem,
  mem_up_to,
  distinct_up_to,
}
use Rattle.theory.proofs.PathLaws.{Setting, spot, spot_eq, Step, inverses, leads_in, met, step_leads}

-- ── Spots that pass a test ──

module _ (f : Spot → Bool) where
  -- those that pass a test are members that pass it
  pub those_mem : (l : List Spot) {s : Spot} → Memᴰ s (those f l) → Memᴰ s l × (f s ≡ true)
  unfolding those
  those_mem [] m = absurd (Memᴰ.not-nil m)
  those_mem (t ∷ l) {s} m =
      by_test (f t) (λ e. ⊎_elim (λ q. (Memᴰ.head q, ap f q ∙ e)) (λ k. later (those_mem l k)) (Memᴰ.cases_cons (rw e at m)))
      (λ e. later (those_mem l (rw e at m)))
    where
      later : Memᴰ s l × (f s ≡ true) → Memᴰ s (t ∷ l) × (f s ≡ true)
      later p = (Memᴰ.tail p.0, p.1)

  -- a member that passes is among those
  pub mem_those : {s : Spot} {l : List Spot} → Memᴰ s l → f s ≡ true → Memᴰ s (those f l)
  unfolding those
  mem_those {s} (Memᴰ.head {x = t} e) q = rw (sym (ap f e) ∙ q) (Memᴰ.head e)
  mem_those (Memᴰ.tail {x = t} m) q = by_test (f t) (λ e. rw e (Memᴰ.tail (mem_those m q))) (λ e. rw e (mem_those m q))

  -- without repeats where the list has none
  pub distinct_those : (l : List Spot) → Distinct l → Distinct (those f l)
  unfolding those
  distinct_those [] d = tt
  distinct_those (t ∷ l) d =
      by_test (f t) (λ e. rw e (λ m. d.0 (those_mem l m).0, distinct_those l d.1)) (λ e. rw e (distinct_those l d.1))

  -- those that pass and those that do not are all
  pub those_length : (l : List Spot) → length (those f l) + length (those (λ s. not (f s)) l) ≡ length l
  unfolding those
  those_length [] = omega arith
  those_length (t ∷ l) =
      let h = those_length l in by_test (f t) (λ e. rw e (omega arith)) (λ e. rw e (omega arith))

-- ── Numbers of spots ──

-- the test for equal spots
same_spot : (s : Spot) (v y : ℕ) → (eqb s.point v && eqb s.letter y) ≡ true → s ≡ spot v y
same_spot s v y e =
    let a = and_true (eqb s.point v) (eqb s.letter y) e in
    spot_eq (eqb-true s.point v a.0) (eqb-true s.letter y a.1)

spot_same : (s : Spot) (v y : ℕ) → s ≡ spot v y → (eqb s.point v && eqb s.letter y) ≡ true
spot_same s v y e = rw (eq-eqb s.point v (ap (λ (t : Spot). t.point) e), eq-eqb s.letter y (ap (λ (t : Spot). t.letter) e))

-- a spot that stands nowhere in a list has no number
pub number_none : (l : List Spot) (k v y : ℕ) → (Memᴰ (spot v y) l → ⊥) → number_in l k v y ≡ 0
unfolding number_in
number_none [] k v y h = refl
number_none (s ∷ l) k v y h =
    by_test (eqb s.point v && eqb s.letter y) (λ e. absurd (h (Memᴰ.head (sym (same_spot s v y e)))))
    (λ e. rw e (number_none l (suc k) v y (λ m. h (Memᴰ.tail m))))

-- in a list without repeats the spot at a place has that place's number
pub number_at_lem : (l : List Spot) (k i v y : ℕ) → Distinct l → i < length l → get_or l i (spot 0 0) ≡ spot v y → number_in l k v y ≡ k + i
unfolding number_in
number_at_lem [] k i v y d h e = absurd (omega arith)
number_at_lem (s ∷ l) k zero v y d h e = rw (spot_same s v y e) (omega arith)
number_at_lem (s ∷ l) k (suc i) v y d h e =
    by_test (eqb s.point v && eqb s.letter y)
    (λ q. absurd (d.0 (Memᴰ.cast (same_spot s v y q ∙ sym e) (mem_get_or l i (spot 0 0) (omega arith)))))
    (λ q. rw q (omega (arith, number_at_lem l (suc k) i v y d.1 (omega arith) e)))

-- ── Scans ──

-- a scan holds spots of points below N
pub scan_mem : (N : ℕ) (ys : List ℕ) {s : Spot} → Memᴰ s (scan N ys) → s.point < N
unfolding scan spots_of
scan_mem zero ys m = absurd (Memᴰ.not-nil m)
scan_mem (suc N) ys m =
    ⊎_elim (λ n. omega (arith, scan_mem N ys n)) (λ n. omega (arith, ap (λ (t : Spot). t.point) (map_mem (spot N) ys n).2))
    (Memᴰ.append_cases (scan N ys) m)

-- it holds each of them with a letter of ys
pub mem_scan : (N : ℕ) (ys : List ℕ) (v y : ℕ) → v < N → StandsIn ys y → Memᴰ (spot v y) (scan N ys)
unfolding scan spots_of
mem_scan zero ys v y h p = absurd (omega arith)
mem_scan (suc N) ys v y h p =
    by_cases (ℕ_discrete v N)
    (λ e. Memᴰ.append_right (scan N ys) (Memᴰ.cast (spot_eq e (sym p.2)) (mem_map (spot N) (mem_get_or ys p.0 0 p.1))))
    (λ e. Memᴰ.append_left (map (spot N) ys) (mem_scan N ys v y (omega arith) p))

-- and holds none twice
pub distinct_scan : (N : ℕ) (ys : List ℕ) → Once ys → Distinct (scan N ys)
unfolding scan spots_of
distinct_scan zero ys o = tt
distinct_scan (suc N) ys o =
    distinct_append (scan N ys) (map (spot N) ys) (distinct_scan N ys o)
    (distinct_map (spot N) (λ a b e. ap (λ (t : Spot). t.letter) e) ys (distinct_once ys o))
    (λ s m n. omega (arith, scan_mem N ys m, ap (λ (t : Spot). t.point) (map_mem (spot N) ys n).2))

-- ── Edges that paths use ──

-- y is read from v to x along the last step of a path, or against it
abbrev pub PathEdge : Cells → ℕ → List ℕ → ℕ → ℕ → ℕ → Type 0
PathEdge c N ys v y x = Step c N ys (spot v y) x ⊎ Step c N ys (spot x (inv y)) v

-- the other way along it
pub path_edge_back : (c : Cells) (N : ℕ) (ys : List ℕ) (v y x : ℕ) → PathEdge c N ys v y x → PathEdge c N ys x (inv y) v
path_edge_back c N ys v y x (inl p) = inr (subst (λ z. Step c N ys (spot v z) x) (sym (letters.twice y)) p)
path_edge_back c N ys v y x (inr p) = inl p

module _ (c : Cells) (N : ℕ) (ys : List ℕ) where
  -- the test passes at last steps of paths alone
  pub is_path_step_sound : (v y x : ℕ) → c v y ≡ x → is_path_step c N ys v y ≡ true → Step c N ys (spot v y) x
  unfolding is_path_step
  is_path_step_sound v y x l e =
      let a = and_true (not (eqb (c v y) 0)) (is_spot v y (first_met c N ys (c v y))) e in (
        λ z. true≢false (sym a.0 ∙ ap not (eq-eqb (c v y) 0 (l ∙ z))),
        ap (first_met c N ys) (sym l) ∙ at (first_met c N ys (c v y)) a.1,
      )
    where
      at : (o : Option Spot) → is_spot v y o ≡ true → o ≡ some (spot v y)
      at none q = passes_fails q refl
      at (some s) q = ap some (same_spot s v y q)

  -- it passes at each last step
  pub is_path_step_complete : (v y x : ℕ) → c v y ≡ x → Step c N ys (spot v y) x → is_path_step c N ys v y ≡ true
  unfolding is_path_step
  is_path_step_complete v y x l p =
      rw (l, ne_eqb x 0 p.0, p.1, eq-eqb v v refl, eq-eqb y y refl)

  -- the test passes at edges that paths use alone
  pub is_path_edge_sound : (v y x : ℕ) → c v y ≡ x → c x (inv y) ≡ v → is_path_edge c N ys v y ≡ true → PathEdge c N ys v y x
  unfolding is_path_edge
  is_path_edge_sound v y x l k e =
      ⊎_elim (λ a. inl (is_path_step_sound v y x l a))
      (λ b. inr (is_path_step_sound x (inv y) v k (subst (λ u. is_path_step c N ys u (inv y) ≡ true) l b)))
      ((tells_or (tells_itself (is_path_step c N ys v y)) (tells_itself (is_path_step c N ys (c v y) (inv y)))).sound e)

  -- it passes at each such edge
  pub is_path_edge_complete : (v y x : ℕ) → c v y ≡ x → c x (inv y) ≡ v → PathEdge c N ys v y x → is_path_edge c N ys v y ≡ true
  unfolding is_path_edge
  is_path_edge_complete v y x l k (inl p) = rw (is_path_step_complete v y x l p)
  is_path_edge_complete v y x l k (inr p) = rw (l, is_path_step_complete x (inv y) v k p) (or-true (is_path_step c N ys v y))

-- the inverse of a lower-case letter is a capital
pub lower_inverse : (y : ℕ) → is_lower y ≡ true → is_lower (inv y) ≡ false
unfolding inv
lower_inverse y e = ne_eqb (inv y % 2) 0 (omega (arith, eqb-true (y % 2) 0 e))

-- and the inverse of a capital is lower-case
pub capital_inverse : (y : ℕ) → is_lower y ≡ false → is_lower (inv y) ≡ true
unfolding inv
capital_inverse y e = let h = eqb-false (y % 2) 0 e in eq-eqb (inv y % 2) 0 (omega arith)

-- the edge of the last step of the path of x, where that step is known
abbrev edge_at : ℕ → Option Spot → Spot
edge_at x none = spot 0 0
edge_at x (some s) = cond (is_lower s.letter) s (spot x (inv s.letter))

module _ {c : Cells} {N : ℕ} {ys : List ℕ} (S : Setting c N ys) where
  -- short names for the table in hand
  abbrev edges : List Spot
  edges = edges_of c N ys

  abbrev on_path : Spot → Bool
  on_path s = is_path_edge c N ys s.point s.letter

  -- an edge is a lower-case letter that leads somewhere
  pub edges_mem : (v y : ℕ) → Memᴰ (spot v y) (edges_of c N ys) → (is_lower y ≡ true) × Leads c v y (c v y)
  unfolding edges_of
  edges_mem v y m =
      let a = and_true (is_lower y) (not (eqb (c v y) absent)) (those_mem (is_edge c) (scan N ys) m).1 in
      (a.0, (refl, eqb-false (c v y) absent (not-true (eqb (c v y) absent) a.1)))

  -- such a letter is an edge
  pub mem_edges : (v y x : ℕ) → Leads c v y x → is_lower y ≡ true → Memᴰ (spot v y) (edges_of c N ys)
  unfolding edges_of
  mem_edges v y x l e =
      let b = leads_in S v y x l in
      mem_those (is_edge c) (mem_scan N ys v y b.0 b.2) (rw (e, l.0, ne_eqb x absent l.1))

  distinct_edges : Distinct edges
  unfolding edges_of
  distinct_edges = distinct_those (is_edge c) (scan N ys) (distinct_scan N ys S.once)

  -- the test for an edge that a path uses, where the letter leads
  on_path_sound : (v y x : ℕ) → Leads c v y x → on_path (spot v y) ≡ true → PathEdge c N ys v y x
  on_path_sound v y x l e = is_path_edge_sound c N ys v y x l.0 ((inverses S).back v y x l).0 e

  on_path_complete : (v y x : ℕ) → Leads c v y x → PathEdge c N ys v y x → on_path (spot v y) ≡ true
  on_path_complete v y x l p = is_path_edge_complete c N ys v y x l.0 ((inverses S).back v y x l).0 p

  -- an edge outside all paths leads somewhere, and is no step of a path
  pub outside_mem : (v y : ℕ) → Memᴰ (spot v y) (outside_edges c N ys) → (is_lower y ≡ true) × Leads c v y (c v y) × (PathEdge c N ys v y (c v y) → ⊥)
  unfolding outside_edges
  outside_mem v y m =
      let a = those_mem (λ s. not (on_path s)) edges m in
      let b = edges_mem v y a.0 in
      (b.0, b.1, λ p. passes_fails (on_path_complete v y (c v y) b.1 p) (not-true (on_path (spot v y)) a.1))

  -- a lower-case letter reads an edge of a path, or one outside
  pub edge_cases : (v y x : ℕ) → Leads c v y x → is_lower y ≡ true → PathEdge c N ys v y x ⊎ Memᴰ (spot v y) (outside_edges c N ys)
  unfolding outside_edges
  edge_cases v y x l e =
      by_test (on_path (spot v y)) (λ p. inl (on_path_sound v y x l p))
      (λ p. inr (mem_those (λ s. not (on_path s)) (mem_edges v y x l e) (ap not p)))

  -- no edge outside all paths is listed twice
  pub distinct_outside : Distinct (outside_edges c N ys)
  unfolding outside_edges
  distinct_outside = distinct_those (λ s. not (on_path s)) edges distinct_edges

  -- ── Count ──

  -- the edges that paths use
  abbrev used : List Spot
  used = those on_path edges

  -- of the two ends of an edge that a path uses, the one whose path ends with it
  abbrev far_end : Spot → ℕ
  far_end s = cond (is_path_step c N ys s.point s.letter) (c s.point s.letter) s.point

  -- the edge of the last step of the path of x
  abbrev last_edge : ℕ → Spot
  last_edge x = edge_at x (first_met c N ys x)

  mem_used : (v y x : ℕ) → Leads c v y x → is_lower y ≡ true → PathEdge c N ys v y x → Memᴰ (spot v y) used
  mem_used v y x l e p = mem_those on_path (mem_edges v y x l e) (on_path_complete v y x l p)

  -- an edge is not the last step of the paths of both its ends: each of them would be the smaller
  one_way_lem : (v y x : ℕ) → Leads c v y x → Step c N ys (spot x (inv y)) v → is_path_step c N ys v y ≡ false
  one_way_lem v y x l p = fails (is_path_step c N ys v y) never
    where
      never : is_path_step c N ys v y ≡ true → ⊥
      never q =
          let b = leads_in S v y x l in
          let f = step_leads S (spot v y) x (is_path_step_sound c N ys v y x l.0 q) b.1 in
          let g = step_leads S (spot x (inv y)) v p b.0 in
          omega arith

  -- each point but the base is the far end of its last edge
  point_edge : (x : ℕ) → (x ≡ 0 → ⊥) → x < N → Memᴰ (last_edge x) used × (far_end (last_edge x) ≡ x)
  point_edge x h hx = let m = met S x h hx in at m.0.point m.0.letter m.1 m.3
    where
      at : (v y : ℕ) → Step c N ys (spot v y) x → Leads c v y x → Memᴰ (last_edge x) used × (far_end (last_edge x) ≡ x)
      at v y p l =
          rw p.1
          (by_test (is_lower y)
          (λ e. rw e (mem_used v y x l e (inl p), rw (is_path_step_complete c N ys v y x l.0 p) l.0))
          (λ e. rw e (mem_used x (inv y) v b (capital_inverse y e) (inr q), rw (one_way_lem x (inv y) v b q))))
        where
          b : Leads c x (inv y) v
          b = (inverses S).back v y x l

          q : Step c N ys (spot v (inv (inv y))) x
          q = subst (λ z. Step c N ys (spot v z) x) (sym (letters.twice y)) p

  -- each edge that paths use is the last edge of its far end
  edge_point : (s : Spot) → Memᴰ s used → (far_end s ≡ 0 → ⊥) × (far_end s < N) × (last_edge (far_end s) ≡ s)
  edge_point s m =
      let a = those_mem on_path edges m in
      let b = edges_mem s.point s.letter a.0 in
      at s.point s.letter (c s.point s.letter) b.1 b.0
      (on_path_sound s.point s.letter (c s.point s.letter) b.1 a.1)
    where
      at : (v y x : ℕ) → Leads c v y x → is_lower y ≡ true → PathEdge c N ys v y x → (far_end (spot v y) ≡ 0 → ⊥) × (far_end (spot v y) < N) × (last_edge (far_end (spot v y)) ≡ spot v y)
      at v y x l e (inl p) =
          rw (is_path_step_complete c N ys v y x l.0 p, l.0) (p.0, (leads_in S v y x l).1, rw (p.1, e))
      at v y x l e (inr p) =
          rw (one_way_lem v y x l p) (p.0, (leads_in S v y x l).0, rw (p.1, lower_inverse y e, letters.twice y))

  -- so there is one for each point but the base
  used_length : length used ≡ N - 1
  used_length =
      sym (paired_length (λ i. last_edge (suc i)) (λ s. far_end s - 1) (up_to (N - 1)) used
      (distinct_up_to (N - 1)) (distinct_those on_path edges distinct_edges)
      (λ i m. let p = point_edge (suc i) (λ z. omega arith) (omega (arith, up_to_mem (N - 1) m)) in (p.0, omega arith))
      (λ s m. let p = edge_point s m in far (far_end s) s p.0 p.1 p.2))
      ∙ length-up_to (N - 1)
    where
      far : (x : ℕ) (s : Spot) → (x ≡ 0 → ⊥) → x < N → last_edge x ≡ s → Memᴰ (x - 1) (up_to (N - 1)) × (last_edge (suc (x - 1)) ≡ s)
      far x s h hx e =
          let z : suc (x - 1) ≡ x = omega arith in (mem_up_to (N - 1) (x - 1) (omega arith), ap last_edge z ∙ e)

  -- there are as many basis words as the rank says
  pub basis_count : length (basis_of c N ys) ≡ rank_of c N ys
  unfolding basis_of outside_edges rank_of
  basis_count =
      let h = S.based in
      omega (arith, used_length, those_length on_path edges, length-map (those (λ s. not (on_path s)) edges) (basis_word c N ys))
