-- How many points and edges: graphs that are the same but for names have as many.
--   Enumerates E es <-> es lists the edges of the graph E, each once
--   spot_edge c s     == the edge that the cell s of c is
--   folded_enumerates, table_enumerates: the edges of a folded graph, and of a canonical table
--   same_points, same_edges: the same graphs have as many points, and as many edges
--   table_connected  : a canonical table has at least as many edges as points besides the base
-- Assumes nothing.
use mathlib.Core.Path.{◌≡◌, refl, sym, ◌∙◌, ap, subst}
use mathlib.Core.Logic.{inl, by_cases, ◌↔◌}
use mathlib.Core.Bool.{true}
use mathlib.Core.List.{List, ◌∷◌, map}
use Prim.Native.Nat.{ℕ, ◌+◌, ◌-◌, ◌*◌, ◌%◌, ◌<◌, ◌≤◌, max}
use native.Mathlib.Decide.{ℕ_discrete}
use native.Mathlib.Omega.{arith}
use lib.ListN.{length, length-map}
use borrow.Author.Tests.{eq-eqb, eqb-true}
use Rattle.theory.specs.Words.{inv}
use Rattle.theory.specs.Letters.{up_to}
use Rattle.theory.specs.Tables.{Cells, Leads}
use Rattle.theory.specs.Graphs.{Edge, Graph, is_lower, generator_of, edge_of, Along}
use Rattle.theory.specs.Folds.{edge_at, Folded}
use Rattle.theory.specs.Basis.{Spot, scan, is_edge, edges_of}
use Rattle.theory.proofs.WordLaws.{by_test}
use Rattle.theory.proofs.ReadLaws.{Steps}
use Rattle.theory.proofs.TableLaws.{length-up_to}
use Rattle.theory.proofs.DistinctLaws.{Distinct, mem_map, map_mem, up_to_mem, distinct_up_to}
use Rattle.theory.proofs.PathLaws.{Setting, spot_eq}
use Rattle.theory.proofs.EdgeLaws.{distinct_those, distinct_scan, capital_inverse, edges_mem, mem_edges}
use Rattle.theory.proofs.MemLaws.{◌∈◌, here, further, mem-cast}
use Rattle.theory.proofs.MemLaws.{places_distinct, distinct_within, distinct_covers, distinct_image}
use Rattle.theory.proofs.GraphLaws.{edge_path, letter_along, edge_lower, edge_along}
use Rattle.theory.proofs.StartLaws.{Good}
use Rattle.theory.proofs.SameLaws.{Core, Same, core_ends, same_sym}

pub record Enumerates (E : Steps) (es : List Edge) : Type 0 where
  pub distinct : Distinct es
  pub lettered : (e : Edge) → e ∈ es → 1 ≤ e.generator
  pub sound : (e : Edge) → e ∈ es → E e.source (letter_along e) e.target
  pub complete : (v y x : ℕ) → is_lower y ≡ true → E v y x → edge_of v y x ∈ es

-- ── The edges of a folded graph ──

-- a good folded graph lists its edges, each once
pub folded_enumerates : {ws : List (List ℕ)} {g : Graph} → Good ws g → Folded g
    → Enumerates (Along g.edges) g.edges
folded_enumerates {g = g} G F =
    record {
      distinct = places_distinct (record { source = 0; generator = 0; target = 0 }) g.edges apart;
      lettered = G.lettered;
      sound = λ e m. mem-cast (edge_along e (G.lettered e m)) m;
      complete = λ v y x l m. m;
    }
  where
    apart : (i j : ℕ) → i < length g.edges → j < length g.edges → edge_at g i ≡ edge_at g j → i ≡ j
    apart i j hi hj e =
        by_cases (ℕ_discrete i j) (λ q. q)
        (λ n. absurd (F i j (edge_at g i).target (edge_at g j).target n hi hj
        (ap (λ (f : Edge). f.generator) e, inl (ap (λ (f : Edge). f.source) e, refl, refl))))

-- ── The edges of a table ──

unfoldable pub spot_edge : Cells → Spot → Edge
spot_edge c s = record { source = s.point; generator = generator_of s.letter; target = c s.point s.letter }

module _ {c : Cells} {N : ℕ} {ys : List ℕ} (S : Setting c N ys) where
  -- edges of one source and one generator are one: their letters are even
  spot_apart : (s t : Spot) → s ∈ edges_of c N ys → t ∈ edges_of c N ys → spot_edge c s ≡ spot_edge c t → s ≡ t
  unfolding spot_edge
  spot_apart s t m n e =
      let g : generator_of s.letter ≡ generator_of t.letter = ap (λ (f : Edge). f.generator) e in
      let a = eqb-true (s.letter % 2) 0 (edges_mem S s.point s.letter m).0 in
      let b = eqb-true (t.letter % 2) 0 (edges_mem S t.point t.letter n).0 in
      spot_eq (ap (λ (f : Edge). f.source) e) (omega arith)

  -- what the letter of an edge reads is the cell
  spot_leads : (s : Spot) → s ∈ edges_of c N ys
      → Leads c s.point (letter_along (spot_edge c s)) (c s.point s.letter)
  unfolding spot_edge
  spot_leads s m =
      let a = edges_mem S s.point s.letter m in
      let b = eqb-true (s.letter % 2) 0 a.0 in
      let q : 2 * (generator_of s.letter - 1) ≡ s.letter = omega arith in
      (ap (c s.point) q, a.1.1)

  -- the lower-case cells of a canonical table that are not absent are its edges, each once
  pub table_enumerates : Enumerates (Leads c) (map (spot_edge c) (edges_of c N ys))
  unfolding spot_edge edges_of
  table_enumerates =
      record {
        distinct = distinct_image (spot_edge c) (edges_of c N ys)
            (distinct_those (is_edge c) (scan N ys) (distinct_scan N ys S.once)) spot_apart;
        lettered = λ e m. let t = map_mem (spot_edge c) (edges_of c N ys) m in
            omega (arith, ap (λ (f : Edge). f.generator) t.2);
        sound = λ e m. let t = map_mem (spot_edge c) (edges_of c N ys) m in
            subst (λ (f : Edge). Leads c f.source (letter_along f) f.target) (sym t.2)
            (spot_leads t.0 t.1);
        complete = λ v y x l m. mem-cast (edge_lower v y x l ∙ edge_path refl refl (sym m.0))
            (mem_map (spot_edge c) (mem_edges S v y x m l));
      }

-- ── The same graphs ──

-- an edge between the images of its ends
abbrev moved_edge : (ℕ → ℕ) → Edge → Edge
moved_edge f e = record { source = f e.source; generator = e.generator; target = f e.target }

module _ {P : ℕ → Type 0} {E : Steps} {b : ℕ} {Q : ℕ → Type 0} {F : Steps} {d : ℕ} (S : Same P E b Q F d) where
  points_le : (l k : List ℕ) → Distinct l → ((p : ℕ) → p ∈ l → P p) → ((q : ℕ) → Q q → q ∈ k) → length l ≤ length k
  points_le l k s f g =
      distinct_covers S.back l k s (λ p m. (S.onto p, g (S.onto p) (S.lands p (f p m)), S.back_onto p (f p m)))

  edges_le : Core P E b → (es fs : List Edge) → Enumerates E es → Enumerates F fs → length es ≤ length fs
  edges_le C es fs A B =
      distinct_covers (moved_edge S.back) es fs A.distinct
      (λ e m. (moved_edge S.onto e, moved e m (A.sound e m), returned e (core_ends C _ _ _ (A.sound e m))))
    where
      moved : (e : Edge) → e ∈ es → E e.source (letter_along e) e.target → moved_edge S.onto e ∈ fs
      moved e m s =
          mem-cast (sym (edge_along (moved_edge S.onto e) (A.lettered e m)))
          (B.complete (S.onto e.source) (letter_along e) (S.onto e.target)
          (eq-eqb (letter_along e % 2) 0 (omega arith)) (S.steps e.source (letter_along e) e.target s))

      returned : (e : Edge) → P e.source × P e.target → moved_edge S.back (moved_edge S.onto e) ≡ e
      returned e t = edge_path (S.back_onto e.source t.0) refl (S.back_onto e.target t.1)

module _ {P : ℕ → Type 0} {E : Steps} {b : ℕ} {Q : ℕ → Type 0} {F : Steps} {d : ℕ} (S : Same P E b Q F d)
    (C : Core P E b) (D : Core Q F d) where
  -- the same graphs have as many points
  pub same_points : (l k : List ℕ) → Distinct l → Distinct k → ((p : ℕ) → (p ∈ l) ↔ P p) → ((q : ℕ) → (q ∈ k) ↔ Q q)
      → length l ≡ length k
  same_points l k s t f g =
      let a = points_le S l k s (λ p. (f p).0) (λ q. (g q).1) in
      let z = points_le (same_sym C.base_in S) k l t (λ q. (g q).0) (λ p. (f p).1) in
      omega arith

  -- the same graphs have as many edges
  pub same_edges : (es fs : List Edge) → Enumerates E es → Enumerates F fs → length es ≡ length fs
  same_edges es fs A B = omega (arith, edges_le S C es fs A B, edges_le (same_sym C.base_in S) D fs es B A)

-- ── Connected ──

-- the greater end of an edge
abbrev greater_end : Edge → ℕ
greater_end e = max e.source e.target

greater_lower : (v y x : ℕ) → is_lower y ≡ true → greater_end (edge_of v y x) ≡ max v x
greater_lower v y x l = ap greater_end (edge_lower v y x l)

module _ {c : Cells} {N : ℕ} {ys : List ℕ} (S : Setting c N ys) where
  -- each point but the base is the greater end of some edge
  met_end : (v : ℕ) → 1 ≤ v → v < N → (e : Edge) × (e ∈ map (spot_edge c) (edges_of c N ys)) × (v ≡ greater_end e)
  met_end v lo hi = go (S.canonical.early v lo hi)
    where
      A : Enumerates (Leads c) (map (spot_edge c) (edges_of c N ys))
      A = table_enumerates S

      go : (u : ℕ) × (y : ℕ) × (u < v) × Leads c u y v
          → (e : Edge) × (e ∈ map (spot_edge c) (edges_of c N ys)) × (v ≡ greater_end e)
      go (u, y, h, m) =
          by_test (is_lower y) (λ l. (edge_of u y v, A.complete u y v l m, omega (arith, greater_lower u y v l)))
          (λ l. (
            edge_of v (inv y) u,
            A.complete v (inv y) u (capital_inverse y l) (S.canonical.inverse u y v m),
            omega (arith, greater_lower v (inv y) u (capital_inverse y l)),
          ))

  -- a canonical table has at least as many edges as points besides the base
  pub table_connected : N ≤ length (edges_of c N ys) + 1
  table_connected =
      let h = distinct_within (up_to N) (0 ∷ map greater_end (map (spot_edge c) (edges_of c N ys))) (distinct_up_to N) met in
      let m = length-map (map (spot_edge c) (edges_of c N ys)) greater_end in
      omega (arith, length-up_to N, length-map (edges_of c N ys) (spot_edge c))
    where
      met : (v : ℕ) → v ∈ up_to N → v ∈ (0 ∷ map greater_end (map (spot_edge c) (edges_of c N ys)))
      met v m =
          by_cases (ℕ_discrete v 0) here
          (λ n. let t = met_end v (omega arith) (up_to_mem N m) in
          further (mem-cast t.2 (mem_map greater_end t.1)))
