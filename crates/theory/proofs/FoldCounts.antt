-- Counts of folds (document 01, 'Folding'), and what follows from them.
--   fold_bound      : all folds together are at most S, so at most the written letters
--   fold_confluent  : complete foldings of one list end in the same graph but for names, after as many folds of a kind
--   fold_counts     : merging folds are start points less final points, closing folds are words not empty less the rank
--   folding_exists  : every graph has a complete folding
--   no_fewer        : no list of the subgroup has fewer words than its rank
-- Assumes nothing.
use mathlib.Core.Path.{◌≡◌, refl, subst}
use mathlib.Core.Logic.{◌⊎◌, inl, inr, ⊎_elim, by_cases}
use mathlib.Core.List.{List, map}
use Prim.Native.Nat.{ℕ, zero, suc, ◌+◌, ◌<◌, ◌≤◌}
use native.Mathlib.Nat.{zero-add, suc-add}
use native.Mathlib.Decide.{ℕ_discrete}
use native.Mathlib.Omega.{arith}
use lib.ListN.{length, length-map}
use Rattle.theory.specs.Words.{SameSubgroup}
use Rattle.theory.specs.Letters.{up_to}
use Rattle.theory.specs.Tables.{Cells}
use Rattle.theory.specs.Graphs.{Edge, Graph, start_graph}
use Rattle.theory.specs.Folds.{Kind, merging, closing, Pair, edge_at, folded, kind_of, FoldStep, Folded, Folding, done, merge, close, CompleteFolding}
use Rattle.theory.specs.Basis.{edges_of, rank_of}
use Rattle.theory.proofs.TableLaws.{length-up_to}
use Rattle.theory.proofs.DistinctLaws.{up_to_mem, mem_up_to, distinct_up_to}
use Rattle.theory.proofs.StartLaws.{reduced_length, written_length, reduced_length_written, start_edges}
use Rattle.theory.proofs.StartLaws.{non_empty_words, non_empty_words_all, start_points_lem}
use Rattle.theory.proofs.StartLaws.{Good, start_good}
use Rattle.theory.proofs.FoldSteps.{step_edges, folding_good, folding_edges, folding_points}
use Rattle.theory.proofs.FoldEnds.{TableFor, SameGraph, SameNames, good_core, table_core, good_table, good_same}
use Rattle.theory.proofs.EdgeCounts.{spot_edge, folded_enumerates, table_enumerates}
use Rattle.theory.proofs.EdgeCounts.{same_points, same_edges, table_connected}

-- ── Foldings of a list ──

module _ (ws : List (List ℕ)) where
  -- what a complete folding ends in is good
  pub complete_good : {h : Graph} {m k : ℕ} → CompleteFolding (start_graph ws) h m k → Good ws h
  complete_good (f, F) = folding_good (start_good ws) f

  -- all folds together are at most S
  pub fold_bound : {h : Graph} {m k : ℕ} → Folding (start_graph ws) h m k → m + k ≤ reduced_length ws
  fold_bound f = omega (arith, folding_edges f, start_edges ws)

  -- and at most the written letters
  pub fold_written : {h : Graph} {m k : ℕ} → Folding (start_graph ws) h m k → m + k ≤ written_length ws
  fold_written f = omega (arith, fold_bound f, reduced_length_written ws)

  -- complete foldings end in the same graph but for names, after the same numbers of folds
  pub fold_confluent : {g h : Graph} {m k n l : ℕ} → CompleteFolding (start_graph ws) g m k
      → CompleteFolding (start_graph ws) h n l → SameNames g h × (m ≡ n) × (k ≡ l)
  fold_confluent {g} {h} (f, F) (e, E) =
      let G = folding_good (start_good ws) f in
      let K = folding_good (start_good ws) e in
      let S = good_same (record { onward = λ q m. m; back = λ q m. m }) G F K E in
      let p = same_points S (good_core G F) (good_core K E) g.points h.points G.distinct K.distinct
      (λ p. (λ m. m, λ m. m)) (λ p. (λ m. m, λ m. m)) in
      let q = same_edges S (good_core G F) (good_core K E) g.edges h.edges
      (folded_enumerates G F) (folded_enumerates K E) in
      let a = folding_points (start_good ws) f in
      let b = folding_points (start_good ws) e in
      (S, omega arith, omega (arith, folding_edges f, folding_edges e))

-- ── Counts against the canonical table ──

module _ {ws : List (List ℕ)} {c : Cells} {N : ℕ} {ys : List ℕ} (T : TableFor ws c N ys) where
  -- a good folded graph has as many points as the table
  pub good_points : {g : Graph} → Good ws g → Folded g → length g.points ≡ N
  good_points {g} G F =
      omega (
        arith,
        length-up_to N,
        same_points (good_table G F T) (good_core G F) (table_core T) g.points (up_to N)
            G.distinct (distinct_up_to N) (λ p. (λ m. m, λ m. m)) (λ v. (λ m. up_to_mem N m, mem_up_to N v)),
      )

  -- and as many edges
  pub good_edges : {g : Graph} → Good ws g → Folded g → length g.edges ≡ length (edges_of c N ys)
  good_edges {g} G F =
      omega (
        arith,
        length-map (edges_of c N ys) (spot_edge c),
        same_edges (good_table G F T) (good_core G F) (table_core T)
            g.edges (map (spot_edge c) (edges_of c N ys)) (folded_enumerates G F) (table_enumerates T.setting),
      )

  module _ {h : Graph} {m k : ℕ} (f : CompleteFolding (start_graph ws) h m k) where
    -- a complete folding ends in the table but for names
    pub fold_table_lem : SameGraph h N c
    fold_table_lem = good_table (complete_good ws f) f.1 T

    -- merging folds are start points less final points, closing folds are the words not empty less the rank
    pub fold_counts : (m + N ≡ length (start_graph ws).points) × (k + rank_of c N ys ≡ non_empty_words ws)
    unfolding rank_of
    fold_counts =
        let p = folding_points (start_good ws) f.0 in
        let e = folding_edges f.0 in
        let q = good_points (complete_good ws f) f.1 in
        let d = good_edges (complete_good ws f) f.1 in
        (omega arith, omega (arith, table_connected T.setting, start_edges ws, start_points_lem ws))

-- ── A folding exists ──

-- whether some number below n has a decided property
search_below : {P : ℕ → Type 0} → ((i : ℕ) → Dec (P i)) → (n : ℕ) → Dec ((i : ℕ) × (i < n) × P i)
search_below f zero = no (λ t. omega (arith, t.1))
search_below {P} f (suc n) = go (f n) (search_below f n)
  where
    go : Dec (P n) → Dec ((i : ℕ) × (i < n) × P i) → Dec ((i : ℕ) × (i < suc n) × P i)
    go (yes p) r = yes (n, omega arith, p)
    go (no q) (yes t) = yes (t.0, omega (arith, t.1), t.2)
    go (no q) (no r) =
        no (λ t. by_cases (ℕ_discrete t.0 n) (λ e. q (subst P e t.2)) (λ d. r (t.0, omega (arith, t.1), t.2)))

-- two edges of one generator leave one point, or enter one
abbrev Meet : Edge → Edge → Type 0
Meet e f = (e.generator ≡ f.generator) × ((e.source ≡ f.source) ⊎ (e.target ≡ f.target))

meet_dec : (e f : Edge) → Dec (Meet e f)
meet_dec e f =
    go (ℕ_discrete e.generator f.generator) (ℕ_discrete e.source f.source)
    (ℕ_discrete e.target f.target)
  where
    go : Dec (e.generator ≡ f.generator) → Dec (e.source ≡ f.source) → Dec (e.target ≡ f.target) → Dec (Meet e f)
    go (no q) r s = no (λ t. q t.0)
    go (yes q) (yes r) s = yes (q, inl r)
    go (yes q) (no r) (yes s) = yes (q, inr s)
    go (yes q) (no r) (no s) = no (λ t. ⊎_elim r s t.1)

-- edges that meet are a pair, and edges of a pair meet
meet_pair : (e f : Edge) → Meet e f → (a : ℕ) × (b : ℕ) × Pair e f a b
meet_pair e f (q, r) =
    ⊎_elim (λ s. (e.target, f.target, (q, inl (s, refl, refl))))
    (λ s. (e.source, f.source, (q, inr (s, refl, refl)))) r

pair_meet : (e f : Edge) (a b : ℕ) → Pair e f a b → Meet e f
pair_meet e f a b (q, r) = (q, ⊎_elim (λ t. inl t.0) (λ t. inr t.0) r)

-- the edges at two different places of g meet
abbrev Foldable : Graph → ℕ → ℕ → Type 0
Foldable g i j = (i ≡ j → ⊥) × Meet (edge_at g i) (edge_at g j)

foldable_dec : (g : Graph) (i j : ℕ) → Dec (Foldable g i j)
foldable_dec g i j = go (ℕ_discrete i j) (meet_dec (edge_at g i) (edge_at g j))
  where
    go : Dec (i ≡ j) → Dec (Meet (edge_at g i) (edge_at g j)) → Dec (Foldable g i j)
    go (yes e) m = no (λ t. t.0 e)
    go (no n) (yes m) = yes (n, m)
    go (no n) (no k) = no (λ t. k t.1)

-- two places of g whose edges can be folded
abbrev Places : Graph → Type 0
Places g = (i : ℕ) × (i < length g.edges) × ((j : ℕ) × (j < length g.edges) × Foldable g i j)

-- a graph has a fold, or is folded
fold_exists : (g : Graph) → ((h : Graph) × (kind : Kind) × FoldStep g h kind) ⊎ Folded g
fold_exists g = go (search_below (λ i. search_below (foldable_dec g i) (length g.edges)) (length g.edges))
  where
    go : Dec (Places g) → ((h : Graph) × (kind : Kind) × FoldStep g h kind) ⊎ Folded g
    go (yes (i, hi, (j, hj, (n, m)))) =
        let p = meet_pair (edge_at g i) (edge_at g j) m in
        inl (
          folded g j p.0 p.1,
          kind_of p.0 p.1,
          record {
            stays = i;
            goes = j;
            different = n;
            stays_in = hi;
            goes_in = hj;
            old = p.0;
            new = p.1;
            pair = inl p.2;
            kind_is = refl;
            outcome = refl;
          },
        )
    go (no n) = inr (λ i j a b d hi hj p. n (i, hi, (j, hj, (d, pair_meet (edge_at g i) (edge_at g j) a b p))))

-- a complete folding of g, with what it ends in and the numbers of its folds
abbrev pub Completed : Graph → Type 0
Completed g = (h : Graph) × (m : ℕ) × (k : ℕ) × CompleteFolding g h m k

completed_step : {g h : Graph} (kind : Kind) → FoldStep g h kind → Completed h → Completed g
completed_step merging s (f, m, k, c) = (f, suc m, k, (merge s c.0, c.1))
completed_step closing s (f, m, k, c) = (f, m, suc k, (close s c.0, c.1))

-- every graph has a complete folding
pub folding_exists : (g : Graph) → Completed g
folding_exists g = go (length g.edges) g (omega arith)
  where
    go : (d : ℕ) (g : Graph) → length g.edges ≤ d → Completed g
    go zero g h =
        ⊎_elim (λ t. absurd (omega (arith, step_edges t.2))) (λ F. (g, 0, 0, (done, F))) (fold_exists g)
    go (suc d) g h =
        ⊎_elim (λ t. completed_step t.1 t.2 (go d t.0 (omega (arith, step_edges t.2))))
        (λ F. (g, 0, 0, (done, F))) (fold_exists g)

-- foldings follow one another
pub folding_append : {f g h : Graph} {m k n l : ℕ} → Folding f g m k → Folding g h n l → Folding f h (m + n) (k + l)
folding_append done r = simp zero-add r
folding_append (merge s q) r = rw suc-add (merge s (folding_append q r))
folding_append (close s q) r = rw suc-add (close s (folding_append q r))

-- every folding can be continued to a complete one
pub folding_continued : {f g : Graph} {m k : ℕ} → Folding f g m k
    → (h : Graph) × (n : ℕ) × (l : ℕ) × CompleteFolding f h (m + n) (k + l)
folding_continued {g = g} q =
    let t = folding_exists g in (t.0, t.1, t.2, (folding_append q t.3.0, t.3.1))

-- ── No fewer words ──

-- a list of the same subgroup has the same table
pub table_other : {us ws : List (List ℕ)} {c : Cells} {N : ℕ} {ys : List ℕ} → SameSubgroup us ws → TableFor ws c N ys
    → TableFor us c N ys
table_other U T =
    record {
      setting = T.setting;
      accepts = (λ q m. T.accepts.0 q (U.onward q m), λ q r. U.back q (T.accepts.1 q r));
    }

-- no list of the subgroup has fewer words than its rank
pub no_fewer : {us ws : List (List ℕ)} {c : Cells} {N : ℕ} {ys : List ℕ} → SameSubgroup us ws → TableFor ws c N ys
    → rank_of c N ys ≤ length us
no_fewer {us} U T =
    let t = folding_exists (start_graph us) in
    omega (arith, (fold_counts (table_other U T) t.3).1, non_empty_words_all us)
