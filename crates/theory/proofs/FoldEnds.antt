-- The folded graph of a list: what it accepts, and that it is the canonical table but for names.
--   member_least       : a subgroup that holds the listed words holds every member
--   folded_inverse     : a folded graph is inverse and deterministic
--   good_accepts       : a good folded graph reads exactly the members home
--   TableFor ws c N ys <-> c is a canonical table of N points that accepts exactly the members of ws
--   SameGraph, SameNames: a graph and a table, two graphs, that are the same but for names
--   good_prefixes, table_prefixes: where prefixes of the reduced listed words end
-- Assumes nothing.
use mathlib.Core.Path.{◌≡◌, refl, sym, ◌∙◌, ap, subst}
use mathlib.Core.Logic.{inl, inr, ⊎_elim, by_cases, ◌↔◌}
use mathlib.Core.List.{List, [], ◌∷◌, ◌++◌, append_assoc}
use Prim.Native.Nat.{ℕ, zero, suc, ◌<◌}
use native.Mathlib.Decide.{ℕ_discrete, dec_lt}
use lib.IntN.{ℤ, pos, negsuc}
use lib.ListN.{length, get_or}
use Rattle.theory.specs.Words.{inv, reduced_by, reduced, inverse_of, Member, SameSubgroup}
use Rattle.theory.specs.Words.{named, product, Names, AllNames}
use Rattle.theory.specs.Tables.{Cells, Leads, Reads, Accepts}
pub use Rattle.theory.specs.Subgroups.{Prefix, EndsAlike, PointOf, SameGraph, SameNames}
use Rattle.theory.specs.Canonical.{Canonical}
use Rattle.theory.specs.Graphs.{Edge, Graph, is_lower, edge_of, Along}
use Rattle.theory.specs.Folds.{Pair, edge_at, Folded}
use Rattle.theory.proofs.WordLaws.{by_test, letters, reduced_idem, reduced_append, inverse_cong, member_listed}
use Rattle.theory.proofs.ReadLaws.{Steps, Inverse, reads_append, reads_split, reads_back, reads_reduced}
use Rattle.theory.proofs.ReadLaws.{ends_loop, loop_ends, canonical_inverse}
use Rattle.theory.proofs.ReadLaws.{Subgroup, member_subgroup, labels_reads}
use Rattle.theory.proofs.HomeLaws.{Homeward}
use Rattle.theory.proofs.OneTable.{point_reached, canonical_home, AcceptsExactly}
use Rattle.theory.proofs.PathLaws.{Setting, inverses}
use Rattle.theory.proofs.DistinctLaws.{get_or_mem}
use Rattle.theory.proofs.MemLaws.{mem_dec}
use Rattle.theory.proofs.GraphLaws.{other_end, edge_other, along_back}
use Rattle.theory.proofs.LabelLaws.{alike_in, alike_swap}
use Rattle.theory.proofs.StartLaws.{Good}
use Rattle.theory.proofs.SameLaws.{ReadsHome, Core, reads_in, same_of_home}

-- ── Subgroups ──

module _ {K : List ℕ → Type 0} (S : Subgroup K) (ws : List (List ℕ))
    (listed : (i : ℕ) → i < length ws → K (get_or ws i [])) where
  named_in : (k : ℤ) → Names (length ws) k → K (named ws k)
  unfolding named
  named_in (pos zero) h = absurd h
  named_in (pos (suc k)) h = listed k h
  named_in (negsuc k) h = S.inverse (get_or ws k []) (listed k h)

  product_in : (ks : List ℤ) → AllNames (length ws) ks → K (product ws ks)
  unfolding product
  product_in [] h = S.empty
  product_in (k ∷ ks) h = S.append (named ws k) (product ws ks) (named_in k h.0) (product_in ks h.1)

  -- a subgroup that holds the listed words holds every member
  pub member_least : (q : List ℕ) → Member ws q → K q
  member_least q m = S.cong (product ws m.numbers) q m.reduces (product_in m.numbers m.listed)

-- the words that read home are a subgroup
pub home_subgroup : {E : Steps} → Inverse E → (b : ℕ) → Subgroup (ReadsHome E b)
unfolding reduced_by
home_subgroup {E} I b =
    record {
      empty = refl;
      append = λ u v r s. subst (λ w. Reads E b w b) (sym (reduced_append letters u v))
          (reads_reduced I b (reduced u ++ reduced v) b (reads_append E b (reduced u) b (reduced v) b r s));
      inverse = λ u r. subst (λ w. Reads E b w b) (inverse_cong letters (reduced u) u (reduced_idem letters u))
          (reads_reduced I b (inverse_of (reduced u)) b (reads_back I b (reduced u) b r));
      cong = λ u v e r. subst (λ w. Reads E b w b) e r;
    }

-- ── The folded graph ──

-- two edges that a letter reads from one point are a pair
along_pair : (v y x z : ℕ) (e f : Edge) → e ≡ edge_of v y x → f ≡ edge_of v y z → Pair e f x z
unfolding edge_of
along_pair v y x z e f p q =
    subst (λ d. Pair d f x z) (sym p) (subst (λ d. Pair (edge_of v y x) d x z) (sym q)
    (by_test (is_lower y) (λ l. rw l (refl, inl (refl, refl, refl))) (λ l. rw l (refl, inr (refl, refl, refl)))))

-- a folded graph is inverse and deterministic
pub folded_inverse : (g : Graph) → Folded g → Inverse (Along g.edges)
folded_inverse g F =
    record { one = λ v y x z m n. same v y x z (get_or_mem nowhere m) (get_or_mem nowhere n); back = along_back }
  where
    nowhere : Edge
    nowhere = record { source = 0; generator = 0; target = 0 }

    -- the place of an edge
    At : Edge → Type 0
    At e = (i : ℕ) × (i < length g.edges) × (edge_at g i ≡ e)

    same : (v y x z : ℕ) → At (edge_of v y x) → At (edge_of v y z) → x ≡ z
    same v y x z (i, hi, p) (j, hj, q) =
        by_cases (ℕ_discrete i j)
        (λ e. sym (edge_other v y x) ∙ ap (other_end y) (sym p ∙ ap (edge_at g) e ∙ q) ∙ edge_other v y z)
        (λ d. absurd (F i j x z d hi hj (along_pair v y x z (edge_at g i) (edge_at g j) p q)))

module _ {ws : List (List ℕ)} {g : Graph} (G : Good ws g) where
  good_ends : (v y x : ℕ) → Along g.edges v y x → PointOf g x
  good_ends v y x m = G.ends_in x (inv y) v (along_back v y x m)

  -- in a good graph there are ways home: of the two at a point, one does not start with the letter
  pub good_home : Homeward (Along g.edges) g.base
  good_home p f u r =
      ⊎_elim (λ e. record { way = []; reads = e; reduces = tt; starts = tt })
      (λ t. by_cases (ℕ_discrete t.first f)
      (λ e. record {
        way = t.second ∷ t.on_second;
        reads = t.second_reads;
        reduces = t.second_reduced;
        starts = λ q. t.differ (e ∙ sym q);
      })
      (λ n. record { way = t.first ∷ t.on_first; reads = t.first_reads; reduces = t.first_reduced; starts = n }))
      (G.ways p (reads_in (Along g.edges) (PointOf g) good_ends g.base u p G.base_in r))

  -- what a good graph reads from the base to the base is a member
  pub good_sound : (q : List ℕ) → Reads (Along g.edges) g.base q g.base → Member ws q
  good_sound q r =
      alike_swap S [] l q (S.inverse l G.label_base) (alike_in S (l ++ q) l labelled G.label_base)
    where
      S : Subgroup (Member ws)
      S = member_subgroup ws

      l : List ℕ
      l = G.label g.base

      labelled : Member ws ((l ++ q) ++ inverse_of l)
      labelled =
          subst (Member ws) (sym (append_assoc l q (inverse_of l)))
          (labels_reads S G.label G.label_step g.base q g.base r)

  -- a good folded graph reads exactly the members home
  pub good_accepts : Folded g → (q : List ℕ) → ReadsHome (Along g.edges) g.base q ↔ Member ws q
  good_accepts F q = (
    λ r. (member_subgroup ws).cong (reduced q) q (reduced_idem letters q) (good_sound (reduced q) r),
    member_least (home_subgroup (folded_inverse g F) g.base) ws G.loops q,
  )

  -- a good folded graph is a core graph
  pub good_core : Folded g → Core (PointOf g) (Along g.edges) g.base
  good_core F =
      record {
        inverse = folded_inverse g F;
        home = good_home;
        decide = λ p. mem_dec p g.points;
        base_in = G.base_in;
        ends = good_ends;
        reach = λ p m. (G.label p, G.reached p m);
      }

-- ── The canonical table ──

pub record TableFor (ws : List (List ℕ)) (c : Cells) (N : ℕ) (ys : List ℕ) : Type 0 where
  pub setting : Setting c N ys
  pub accepts : AcceptsExactly c ws

module _ {ws : List (List ℕ)} {c : Cells} {N : ℕ} {ys : List ℕ} (T : TableFor ws c N ys) where
  -- the table accepts exactly the members
  pub table_accepts : (q : List ℕ) → Accepts c q ↔ Member ws q
  table_accepts q = (T.accepts.1 q, T.accepts.0 q)

  -- a canonical table is a core graph
  pub table_core : Core (λ v. v < N) (Leads c) 0
  table_core =
      record {
        inverse = canonical_inverse K;
        home = canonical_home K T.setting.based;
        decide = λ v. dec_lt v N;
        base_in = T.setting.based;
        ends = K.within;
        reach = λ v h. let t = point_reached K v h in (t.0, t.2);
      }
    where
      K : Canonical N ys c
      K = T.setting.canonical

-- a good folded graph is the canonical table of its subgroup
pub good_table : {ws : List (List ℕ)} {g : Graph} {c : Cells} {N : ℕ} {ys : List ℕ} → Good ws g → Folded g
    → TableFor ws c N ys → SameGraph g N c
good_table G F T =
    same_of_home (good_core G F) (table_core T)
    (λ q. (λ r. T.accepts.0 q ((good_accepts G F q).0 r), λ r. (good_accepts G F q).1 (T.accepts.1 q r)))

-- good folded graphs of one subgroup are the same
pub good_same : {us ws : List (List ℕ)} {g h : Graph} → SameSubgroup us ws → Good us g → Folded g → Good ws h → Folded h
    → SameNames g h
good_same U G F K L =
    same_of_home (good_core G F) (good_core K L)
    (λ q. (
      λ r. (good_accepts K L q).1 (U.onward q ((good_accepts G F q).0 r)),
      λ r. (good_accepts G F q).1 (U.back q ((good_accepts K L q).0 r)),
    ))

-- ── Prefixes of the reduced listed words ──

module _ (ws : List (List ℕ)) {E : Steps} (I : Inverse E) (b : ℕ)
    (accepts : (q : List ℕ) → ReadsHome E b q ↔ Member ws q) where
  prefix_reads : (u : List ℕ) → Prefix ws u → (x : ℕ) × Reads E b u x
  prefix_reads u (i, t, h, e) =
      let r = (accepts (get_or ws i [])).1 (member_listed ws i h) in
      let s = reads_split E b u t b (subst (λ w. Reads E b w b) (sym e) r) in
      (s.0, s.1)

  prefixes_alike : (u v : List ℕ) → Prefix ws u → Prefix ws v → EndsAlike ws E b u v
  prefixes_alike u v p q =
      let r = prefix_reads u p in
      let s = prefix_reads v q in
      record {
        first = r.0;
        second = s.0;
        first_reads = r.1;
        second_reads = s.1;
        alike = (
          λ e. (accepts (u ++ inverse_of v)).0 (ends_loop I b u v r.0 s.0 r.1 s.1 e),
          λ m. loop_ends I b u v r.0 s.0 r.1 s.1 ((accepts (u ++ inverse_of v)).1 m),
        );
      }

-- in the folded graph
pub good_prefixes : {ws : List (List ℕ)} {g : Graph} → Good ws g → Folded g
    → (u v : List ℕ) → Prefix ws u → Prefix ws v → EndsAlike ws (Along g.edges) g.base u v
good_prefixes {ws} {g} G F = prefixes_alike ws (folded_inverse g F) g.base (good_accepts G F)

-- and in the canonical table
pub table_prefixes : {ws : List (List ℕ)} {c : Cells} {N : ℕ} {ys : List ℕ} → TableFor ws c N ys
    → (u v : List ℕ) → Prefix ws u → Prefix ws v → EndsAlike ws (Leads c) 0 u v
table_prefixes {ws} T = prefixes_alike ws (inverses T.setting) 0 (table_accepts T)
