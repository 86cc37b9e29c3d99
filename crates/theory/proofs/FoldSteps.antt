-- What folds keep, and what they take (`specs/Folds`; 000, proposition 5.11).
--   new_name s v    == the name of v after the fold s
--   step_along      : a fold is a morphism: what a letter reads before, it reads between the renamed points after
--   step_along_back : and what it reads after, it read before
--   step_good       : a fold of a good graph gives a good graph
--   folding_good    : so does a folding; it takes an edge with each fold and a point with each merging one
-- Labels stay as they are: a pair shows that the labels of the joined points differ by a member. Assumes nothing.
use mathlib.Core.Path.{◌≡◌, refl, sym, ◌∙◌, ap, subst}
use mathlib.Core.Logic.{inl, inr, ⊎_elim, by_cases}
use mathlib.Core.Bool.{cond}
use mathlib.Core.List.{List, [], ◌∷◌, ◌++◌}
use Prim.Native.Nat.{ℕ, suc, ◌+◌, ◌≤◌}
use native.Mathlib.Decide.{ℕ_discrete}
use native.Mathlib.Omega.{arith}
use lib.Dec.{eqb}
use lib.ListN.{length, get_or, length-map}
use borrow.Author.Tests.{eqb-true, eqb-false}
use Rattle.theory.specs.Words.{inv, reduced, inverse_of, Member}
use Rattle.theory.specs.Tables.{Reads}
use Rattle.theory.specs.Graphs.{Edge, Graph, edge_of, Along}
use Rattle.theory.specs.Folds.{Kind, merging, closing, edge_at, remove_at, renamed, renamed_edge, folded, FoldStep, Folding, done, merge, close}
use Rattle.theory.proofs.WordLaws.{by_test}
use Rattle.theory.proofs.ReadLaws.{Steps, member_subgroup}
use Rattle.theory.proofs.DistinctLaws.{Distinct, mem_get_or, get_or_mem, mem_map, map_mem}
use Rattle.theory.proofs.MemLaws.{◌∈◌, mem-cast}
use Rattle.theory.proofs.GraphLaws.{start_end, other_end, edge_generator, edge_start, edge_other, edge_ends, along_back}
use Rattle.theory.proofs.LabelLaws.{self_inverse, alike_in, alike_sym, alike_step, alike_ends}
use Rattle.theory.proofs.CircleLaws.{TwoWays}
use Rattle.theory.proofs.StartLaws.{Good}
use Rattle.theory.proofs.FoldParts.{
  renamed_old,
  renamed_other,
  renamed_same,
  edge_renamed,
  start_renamed,
  other_renamed,
  length-remove_at,
  remove_at_in,
  remove_at_keeps,
  without_in,
  without_from,
  without_distinct,
  without_length,
  pair_sym,
  pair_one,
  Fork,
  pair_fork,
}

-- ── Morphisms ──

module _ (E F : Steps) (f : ℕ → ℕ) (step : (v y x : ℕ) → E v y x → F (f v) y (f x)) where
  -- what reads, reads between the images
  pub reads_map : (v : ℕ) (w : List ℕ) (x : ℕ) → Reads E v w x → Reads F (f v) w (f x)
  reads_map v [] x r = ap f r
  reads_map v (y ∷ w) x r = (f r.0, step v y r.0 r.1, reads_map r.0 w x r.2)

  -- ways home lead home between the images
  ways_map : {b p : ℕ} → TwoWays E b p → TwoWays F (f b) (f p)
  ways_map {b} {p} t =
      record {
        first = t.first;
        second = t.second;
        on_first = t.on_first;
        on_second = t.on_second;
        differ = t.differ;
        first_reads = reads_map p (t.first ∷ t.on_first) b t.first_reads;
        second_reads = reads_map p (t.second ∷ t.on_second) b t.second_reads;
        first_reduced = t.first_reduced;
        second_reduced = t.second_reduced;
      }

-- ── One fold ──

module _ {g h : Graph} {kind : Kind} (s : FoldStep g h kind) where
  abbrev pub new_name : ℕ → ℕ
  new_name = renamed s.old s.new

  abbrev new_edge : Edge → Edge
  new_edge = renamed_edge s.old s.new

  -- the graph after the fold; h is that
  abbrev after : Graph
  after = folded g s.goes s.old s.new

  abbrev kept : Edge
  kept = edge_at g s.stays

  abbrev gone : Edge
  gone = edge_at g s.goes

  renamed_one : new_edge gone ≡ new_edge kept
  renamed_one =
      ⊎_elim (λ t. sym (pair_one kept gone s.old s.new t))
      (λ t. pair_one gone kept s.old s.new (pair_sym kept gone s.new s.old t)) s.pair

  after_along : (v y x : ℕ) → Along g.edges v y x → Along after.edges (new_name v) y (new_name x)
  unfolding folded
  after_along v y x m =
      let p = get_or_mem nowhere m in
      by_cases (ℕ_discrete p.0 s.goes) (λ e. here (sym p.2 ∙ ap (edge_at g) e) renamed_one kept_in)
      (λ n. here (sym p.2) refl (remove_at_keeps nowhere p.0 s.goes g.edges n p.1))
    where
      nowhere : Edge
      nowhere = record { source = 0; generator = 0; target = 0 }

      kept_in : kept ∈ remove_at s.goes g.edges
      kept_in = remove_at_keeps nowhere s.stays s.goes g.edges s.different s.stays_in

      here : {d e : Edge} → edge_of v y x ≡ d → new_edge d ≡ new_edge e
          → e ∈ remove_at s.goes g.edges → Along after.edges (new_name v) y (new_name x)
      here p q n =
          mem-cast (sym (edge_renamed s.old s.new v y x) ∙ ap new_edge p ∙ q) (mem_map new_edge n)

  -- a step between the new names of p and q
  abbrev Before : ℕ → ℕ → ℕ → Type 0
  Before v y x = (p : ℕ) × (q : ℕ) × Along g.edges p y q × (new_name p ≡ v) × (new_name q ≡ x)

  after_back : (v y x : ℕ) → Along after.edges v y x → Before v y x
  unfolding folded renamed_edge
  after_back v y x m =
      let t = map_mem new_edge (remove_at s.goes g.edges) m in
      let e = t.0 in (
        start_end y e,
        other_end y e,
        mem-cast (edge_ends y e (ap (λ (f : Edge). f.generator) (sym t.2) ∙ edge_generator v y x))
            (remove_at_in s.goes g.edges t.1),
        sym (start_renamed s.old s.new y e) ∙ ap (start_end y) (sym t.2) ∙ edge_start v y x,
        sym (other_renamed s.old s.new y e) ∙ ap (other_end y) (sym t.2) ∙ edge_other v y x,
      )

  -- a fold is a morphism
  pub step_along : (v y x : ℕ) → Along g.edges v y x → Along h.edges (new_name v) y (new_name x)
  step_along v y x m =
      subst (λ f. Along f.edges (new_name v) y (new_name x)) (sym s.outcome) (after_along v y x m)

  -- what a letter reads after a fold, it read before
  pub step_along_back : (v y x : ℕ) → Along h.edges v y x
      → (p : ℕ) × (q : ℕ) × Along g.edges p y q × (new_name p ≡ v) × (new_name q ≡ x)
  step_along_back v y x m = after_back v y x (subst (λ f. Along f.edges v y x) s.outcome m)

  -- the renamed points are points
  after_points : s.new ∈ g.points → (v : ℕ) → v ∈ g.points → new_name v ∈ after.points
  unfolding folded
  after_points hb v hv =
      by_test (eqb s.old s.new)
      (λ e. rw e (mem-cast (renamed_same s.old s.new (eqb-true s.old s.new e) v) hv))
      (λ e. rw e (by_cases (ℕ_discrete v s.old)
      (λ q. mem-cast (ap new_name q ∙ renamed_old s.old s.new)
      (without_in s.old g.points (λ p. eqb-false s.old s.new e (sym p)) hb))
      (λ n. mem-cast (renamed_other s.old s.new v n) (without_in s.old g.points n hv))))

  -- they are points of before that keep their names
  after_points_back : (v : ℕ) → v ∈ after.points → (v ∈ g.points) × (new_name v ≡ v)
  unfolding folded
  after_points_back v m =
      by_test (eqb s.old s.new)
      (λ e. (rw e at m, renamed_same s.old s.new (eqb-true s.old s.new e) v))
      (λ e. let t = without_from s.old g.points (rw e at m) in (t.0, renamed_other s.old s.new v t.1))

  after_distinct : Distinct g.points → Distinct after.points
  unfolding folded
  after_distinct n =
      by_test (eqb s.old s.new) (λ e. rw e n) (λ e. rw e (without_distinct s.old g.points n))

module _ {ws : List (List ℕ)} {g h : Graph} {kind : Kind} (G : Good ws g) (s : FoldStep g h kind) where
  -- one letter leads from one point to both joined points
  step_fork : Fork g.edges s.old s.new
  step_fork =
      ⊎_elim (pair_fork (kept s) (gone s) s.old s.new G.lettered kept_in gone_in)
      (λ t. pair_fork (gone s) (kept s) s.old s.new G.lettered gone_in kept_in
      (pair_sym (kept s) (gone s) s.new s.old t))
      s.pair
    where
      kept_in : kept s ∈ g.edges
      kept_in = mem_get_or g.edges s.stays _ s.stays_in

      gone_in : gone s ∈ g.edges
      gone_in = mem_get_or g.edges s.goes _ s.goes_in

  old_in : s.old ∈ g.points
  old_in = let t = step_fork in G.ends_in s.old (inv t.1) t.0 (along_back t.0 t.1 s.old t.2)

  new_in : s.new ∈ g.points
  new_in = let t = step_fork in G.ends_in s.new (inv t.1) t.0 (along_back t.0 t.1 s.new t.3)

  -- a point's label and that of its new name differ by a member
  label_renamed : (v : ℕ) → Member ws (G.label v ++ inverse_of (G.label (new_name s v)))
  label_renamed v =
      by_cases (ℕ_discrete v s.old) (λ e. rw (e, renamed_old s.old s.new) (joined step_fork))
      (λ n. rw (renamed_other s.old s.new v n) (self_inverse (member_subgroup ws) (G.label v)))
    where
      joined : Fork g.edges s.old s.new → Member ws (G.label s.old ++ inverse_of (G.label s.new))
      joined (p, y, m, n) =
          alike_ends (member_subgroup ws) (G.label p) (G.label s.old) (G.label s.new) y
          (G.label_step p y s.old m) (G.label_step p y s.new n)

  -- the label of the new name may stand for that of the old
  label_new : (v p : ℕ) → new_name s v ≡ p → Member ws (G.label p ++ inverse_of (G.label v))
  label_new v p e =
      subst (λ q. Member ws (G.label q ++ inverse_of (G.label v))) e
      (alike_sym (member_subgroup ws) (G.label v) (G.label (new_name s v)) (label_renamed v))

  label_old : (v p : ℕ) → new_name s v ≡ p → Member ws (G.label v ++ inverse_of (G.label p))
  label_old v p e = subst (λ q. Member ws (G.label v ++ inverse_of (G.label q))) e (label_renamed v)

  after_good : Good ws (after s)
  unfolding folded renamed_edge
  after_good =
      record {
        distinct = after_distinct s G.distinct;
        base_in = after_points s new_in g.base G.base_in;
        ends_in = λ v y x m. let t = after_back s v y x m in
            mem-cast (sym t.3) (after_points s new_in t.0 (G.ends_in t.0 y t.1 t.2));
        lettered = λ e m. let t = map_mem (new_edge s) (remove_at s.goes g.edges) m in
            subst (λ (f : Edge). 1 ≤ f.generator) (sym t.2)
            (G.lettered t.0 (remove_at_in s.goes g.edges t.1));
        label = G.label;
        label_base = alike_in (member_subgroup ws) _ (G.label g.base) (label_new g.base _ refl) G.label_base;
        label_step = λ v y x m. let t = after_back s v y x m in
            alike_step (member_subgroup ws) (G.label v) (G.label t.0) (G.label x) (G.label t.1) y
            (label_new t.0 v t.3) (label_old t.1 x t.4) (G.label_step t.0 y t.1 t.2);
        reached = λ p m. let t = after_points_back s p m in
            subst (Reads E b (G.label p)) t.1 (onward g.base (G.label p) p (G.reached p t.0));
        loops = λ k l. onward g.base (reduced (get_or ws k [])) g.base (G.loops k l);
        ways = λ p m. let t = after_points_back s p m in
            ⊎_elim (λ e. inl (sym t.1 ∙ ap (new_name s) e))
            (λ w. inr (subst (TwoWays E b) t.1 (ways_map (Along g.edges) E (new_name s) (after_along s) w)))
            (G.ways p t.0);
      }
    where
      E : Steps
      E = Along (after s).edges

      b : ℕ
      b = new_name s g.base

      onward : (v : ℕ) (w : List ℕ) (x : ℕ) → Reads (Along g.edges) v w x → Reads E (new_name s v) w (new_name s x)
      onward = reads_map (Along g.edges) E (new_name s) (after_along s)

  -- a fold of a good graph gives a good graph
  pub step_good : Good ws h
  step_good = subst (Good ws) (sym s.outcome) after_good

-- ── Counts ──

-- a fold takes one edge
pub step_edges : {g h : Graph} {kind : Kind} → FoldStep g h kind → suc (length h.edges) ≡ length g.edges
unfolding folded
step_edges {g} s =
    ap (λ (f : Graph). suc (length f.edges)) s.outcome
    ∙ ap suc (length-map (remove_at s.goes g.edges) (new_edge s))
    ∙ length-remove_at s.goes g.edges s.goes_in

merging_closing : merging ≡ closing → ⊥
merging_closing e = let z : ◌≡◌ {A = ℕ} 0 1 = cc in omega arith

-- a merging fold takes one point
pub merge_points : {ws : List (List ℕ)} {g h : Graph} → Good ws g → FoldStep g h merging
    → suc (length h.points) ≡ length g.points
unfolding folded
merge_points {g = g} G s =
    ap (λ (f : Graph). suc (length f.points)) s.outcome
    ∙ by_test (eqb s.old s.new)
    (λ e. absurd (merging_closing (s.kind_is ∙ ap (λ t. cond t closing merging) e)))
    (λ e. rw e (without_length s.old g.points G.distinct (old_in G s)))

-- a closing fold takes none
pub close_points : {g h : Graph} → FoldStep g h closing → length h.points ≡ length g.points
unfolding folded
close_points s =
    ap (λ (f : Graph). length f.points) s.outcome
    ∙ by_test (eqb s.old s.new) (λ e. rw e)
    (λ e. absurd (merging_closing (sym (s.kind_is ∙ ap (λ t. cond t closing merging) e))))

-- ── Foldings ──

-- a folding of a good graph gives a good graph
pub folding_good : {ws : List (List ℕ)} {g h : Graph} {m k : ℕ} → Good ws g → Folding g h m k → Good ws h
folding_good G done = G
folding_good G (merge s r) = folding_good (step_good G s) r
folding_good G (close s r) = folding_good (step_good G s) r

-- each fold takes one edge
pub folding_edges : {g h : Graph} {m k : ℕ} → Folding g h m k → m + k + length h.edges ≡ length g.edges
folding_edges done = omega arith
folding_edges (merge s r) = omega (arith, step_edges s, folding_edges r)
folding_edges (close s r) = omega (arith, step_edges s, folding_edges r)

-- each merging fold takes one point
pub folding_points : {ws : List (List ℕ)} {g h : Graph} {m k : ℕ} → Good ws g → Folding g h m k
    → m + length h.points ≡ length g.points
folding_points G done = omega arith
folding_points G (merge s r) = omega (arith, merge_points G s, folding_points (step_good G s) r)
folding_points G (close s r) = omega (arith, close_points s, folding_points (step_good G s) r)
