-- The headlines, in the order of docs/PROMISES.md: each says a sentence of document 01 over the definitions of `specs/`, and is proved by citing.
-- Shown: refusals, members, one table a subgroup, the free basis, reduction, folding and its counts, the canonical rules, rank and index.
-- A statement about the table of a list holds for every table that is `TableOf` it, over lists of words of any length.
-- Not shown here: that each accepted list has such a table (folding's contract), that `normal` is the ordinary notion (it is not: document
-- 01's rule asks only points one letter away), anything about code. Assumes nothing.
use mathlib.Core.Path.{◌≡◌, sym, subst}
use mathlib.Core.Logic.{◌↔◌}
use mathlib.Core.Bool.{Bool, true}
use mathlib.Core.Option.{some, none}
use mathlib.Core.List.{List, [], ◌++◌, Memᴰ}
use Prim.Native.Nat.{ℕ, suc, ◌+◌, ◌-◌, ◌*◌, ◌≤◌, ◌<◌}
use lib.IntN.{ℤ}
use lib.ListN.{length, get_or}
use Rattle.theory.specs.Words.{
  reduced,
  Reduced,
  ◌≈◌,
  inverse_of,
  product,
  AllNames,
  Member,
  Tidy,
  SameSubgroup,
}
use Rattle.theory.specs.Letters.{usual, letters_in, words_of}
use Rattle.theory.specs.Refusals.{First, TextCause, text_refusal}
use Rattle.theory.specs.Tables.{absent, cell, Leads, Reads, is_accepted}
use Rattle.theory.specs.Canonical.{Canonical, faulty_cell}
use Rattle.theory.specs.Graphs.{Graph, Along, start_graph, reduced_length, non_empty_words}
use Rattle.theory.specs.Folds.{Kind, FoldStep, Folding, CompleteFolding}
use Rattle.theory.specs.Basis.{finite, infinite, outside_edges, basis_word, basis_of, expression_of, rank_of, index_of}
use Rattle.theory.specs.Subgroups.{TableOf, Prefix, EndsAlike, SameGraph, SameNames, Cosets, Endless}
use Rattle.theory.proofs.WordLaws.{letters, reduced_none, reduced_idem, reduced_append, inverse_right}
use Rattle.theory.proofs.RefusalLaws.{refusal_first, first_refusal, refusal_none, none_refusal}
use Rattle.theory.proofs.ReadLaws.{is_accepted_sound, is_accepted_complete}
use Rattle.theory.proofs.TableLaws.{cell_bounded}
use Rattle.theory.proofs.CanonicalLaws.{
  LowestCell,
  table_canonical_none,
  table_none_canonical,
  table_faulty_lowest,
}
use Rattle.theory.proofs.OneTable.{onward_table, begun_reads, tables_equal, equal_tables}
use Rattle.theory.proofs.IndexLaws.{index_finite, index_infinite}
use Rattle.theory.proofs.PathLaws.{spot, usual_setting}
use Rattle.theory.proofs.EdgeLaws.{basis_count}
use Rattle.theory.proofs.BasisLaws.{loop_by, basis_word_plain, basis_length}
use Rattle.theory.proofs.ExpressionLaws.{
  expression_empty,
  expression_tidy,
  expression_product,
  expression_unique,
  basis_generates,
  basis_accepts,
}
use Rattle.theory.proofs.StartLaws.{start_edges, start_points_lem, written_letters}
use Rattle.theory.proofs.FoldSteps.{step_edges}
use Rattle.theory.proofs.FoldEnds.{TableFor, good_prefixes, table_prefixes}
use Rattle.theory.proofs.FoldCounts.{
  complete_good,
  fold_bound,
  fold_written,
  fold_confluent as confluent,
  fold_table_lem,
  fold_counts as counts,
  folding_continued,
  no_fewer,
}

-- ── Demand 1: refusals ──

-- D-03: a text is refused by a number at a place exactly if that is the first cause that applies
pub refused_by_first_cause : (n : ℕ) (lines : Bool) (text : List ℕ) (k p : ℕ)
    → (text_refusal n lines text ≡ some (record { number = k; place = p })) ↔ First (TextCause n lines text) k p
refused_by_first_cause n lines text k p =
    (λ e. refusal_first n lines text (record { number = k; place = p }) e, first_refusal n lines text k p)

-- D-03: and is not refused exactly if no cause applies
pub not_refused_without_cause : (n : ℕ) (lines : Bool) (text : List ℕ)
    → (text_refusal n lines text ≡ none) ↔ ((k p : ℕ) → TextCause n lines text k p → ⊥)
not_refused_without_cause n lines text = (refusal_none n lines text, none_refusal n lines text)

module _ {n N : ℕ} {t : List ℕ} {ws : List (List ℕ)} (T : TableOf n N t ws) where
  -- the table as the laws of all letter orders take it
  table_for_lem : TableFor ws (cell n N t) N (usual n)
  table_for_lem = record { setting = usual_setting n N t T.canonical T.based; accepts = T.accepts }

  -- ── Demand 2: members ──

  -- D-05: a query is accepted exactly if some product of listed words and inverses reduces to what it does
  pub member_iff_reads_back : (q : List ℕ) → (is_accepted (cell n N t) q ≡ true) ↔ Member ws q
  member_iff_reads_back q =
      (λ e. T.accepts.1 q (is_accepted_sound (cell n N t) q e), λ m. is_accepted_complete (cell n N t) q (T.accepts.0 q m))

  -- ── Demand 3: the basis ──

  -- D-09, D-11: the expression is a product of basis words, none beside its own inverse, that reduces to the member
  pub expression_reduces : (q : List ℕ) → Member ws q
      → Tidy (expression_of (cell n N t) N (usual n) q)
      × AllNames (length (basis_of (cell n N t) N (usual n))) (expression_of (cell n N t) N (usual n) q)
      × (product (basis_of (cell n N t) N (usual n)) (expression_of (cell n N t) N (usual n) q) ≈ q)
  expression_reduces q m =
      let a = T.accepts.0 q m in
      let e = expression_tidy table_for_lem.setting q a in
      (e.0, e.1, expression_product table_for_lem.setting q a)

  -- D-10: it is the only one
  pub express_unique : (ks : List ℤ) (q : List ℕ) → AllNames (length (basis_of (cell n N t) N (usual n))) ks → Tidy ks
      → product (basis_of (cell n N t) N (usual n)) ks ≈ q → ks ≡ expression_of (cell n N t) N (usual n) q
  express_unique = expression_unique table_for_lem.setting

  -- D-13: a word outside has none
  pub outside_has_none : (q : List ℕ) → (Member ws q → ⊥) → (ks : List ℤ)
      → AllNames (length (basis_of (cell n N t) N (usual n))) ks → product (basis_of (cell n N t) N (usual n)) ks ≈ q → ⊥
  outside_has_none q out ks h e =
      out (T.accepts.1 q (basis_accepts table_for_lem.setting q (record { numbers = ks; listed = h; reduces = e })))

  -- D-14: no list of fewer words than the basis generates the same subgroup
  pub no_list_of_fewer : (us : List (List ℕ)) → SameSubgroup us ws → length (basis_of (cell n N t) N (usual n)) ≤ length us
  no_list_of_fewer us s =
      subst (λ k. k ≤ length us) (sym (basis_count table_for_lem.setting)) (no_fewer s table_for_lem)

  -- ── Folding against the table ──

  -- F-09, F-10, F-12: merging folds are start points less V, closing folds m less the rank, in every complete folding
  pub fold_counts : {h : Graph} {m k : ℕ} → CompleteFolding (start_graph ws) h m k
      → (m + N ≡ length (start_graph ws).points) × (k + rank_of (cell n N t) N (usual n) ≡ non_empty_words ws)
  fold_counts f = counts table_for_lem f

  -- F-07: its final graph is the table's graph but for names
  pub folds_to_the_table : {h : Graph} {m k : ℕ} → CompleteFolding (start_graph ws) h m k → SameGraph h N (cell n N t)
  folds_to_the_table f = fold_table_lem table_for_lem f

  -- F-13: prefixes of reduced listed words end at one point of the table exactly if the first, then the inverse of the second, is a member
  pub prefixes_in_the_table : (u v : List ℕ) → Prefix ws u → Prefix ws v → EndsAlike ws (Leads (cell n N t)) 0 u v
  prefixes_in_the_table = table_prefixes table_for_lem

  -- ── Rank, index and basis words ──

  -- T-13: the basis has as many words as the rank
  pub rank_counts_the_basis : length (basis_of (cell n N t) N (usual n)) ≡ rank_of (cell n N t) N (usual n)
  rank_counts_the_basis = basis_count table_for_lem.setting

  -- T-14: a finite index is the number of cosets
  pub index_counts_cosets : (k : ℕ) → index_of (cell n N t) N (usual n) ≡ finite k → Cosets (cell n N t) (usual n) k
  index_counts_cosets = index_finite T.canonical (cell_bounded n N t) T.based

  -- T-14: where it is infinite there are more cosets than any number
  pub infinite_index_is_endless : index_of (cell n N t) N (usual n) ≡ infinite → Endless (cell n N t) (usual n)
  infinite_index_is_endless = index_infinite T.canonical (cell_bounded n N t)

  -- B-03: path, letter and inverse path never cancel: a basis word is reduced as it stands
  pub basis_words_as_they_stand : (v y : ℕ) → Memᴰ (spot v y) (outside_edges (cell n N t) N (usual n))
      → basis_word (cell n N t) N (usual n) (spot v y) ≡ loop_by (cell n N t) N (usual n) v y (cell n N t v y)
  basis_words_as_they_stand = basis_word_plain table_for_lem.setting

  -- B-05: a basis word has at most 2V − 1 letters
  pub basis_words_short : (k : ℕ) → k < length (basis_of (cell n N t) N (usual n))
      → length (get_or (basis_of (cell n N t) N (usual n)) k []) ≤ 2 * N - 1
  basis_words_short = basis_length table_for_lem.setting

  -- the basis generates the subgroup
  pub basis_generates_the_subgroup : SameSubgroup (basis_of (cell n N t) N (usual n)) ws
  basis_generates_the_subgroup =
      record {
        onward = λ q m. T.accepts.1 q (basis_accepts table_for_lem.setting q m);
        back = λ q m. basis_generates table_for_lem.setting q (T.accepts.0 q m);
      }

  -- a reduced word that reads from the base begins a reduced member
  pub reading_goes_on : (w : List ℕ) (p : ℕ) → Reduced w → Reads (Leads (cell n N t)) 0 w p
      → (v : List ℕ) × Reduced (w ++ v) × Member ws (w ++ v)
  reading_goes_on w p h r =
      let o = onward_table T.canonical T.based w p h r in (o.0, o.1, T.accepts.1 (w ++ o.0) o.2)

  -- and what does not read begins none
  pub only_readings_go_on : (w v : List ℕ) → Reduced (w ++ v) → Member ws (w ++ v) → (p : ℕ) × Reads (Leads (cell n N t)) 0 w p
  only_readings_go_on w v h m = begun_reads (cell n N t) w v h (T.accepts.0 (w ++ v) m)

-- D-06: over one alphabet two lists have equal tables exactly if they generate the same subgroup
pub tables_equal_iff_same_subgroup : {n N M : ℕ} {t s : List ℕ} {us ws : List (List ℕ)} → TableOf n N t us → TableOf n M s ws
    → ((N ≡ M) × ((v y : ℕ) → cell n N t v y ≡ cell n M s v y)) ↔ SameSubgroup us ws
tables_equal_iff_same_subgroup {n} {N} {M} {t} {s} {us} {ws} T S = (
  λ e. equal_tables (cell n N t) (cell n M s) us ws T.accepts S.accepts e.1,
  tables_equal n t s us ws T.canonical S.canonical T.based S.based T.accepts S.accepts,
)

-- D-12: the empty word has the empty product
pub empty_word_expressed : (n N : ℕ) (t : List ℕ) → expression_of (cell n N t) N (usual n) [] ≡ []
empty_word_expressed n N t = expression_empty (cell n N t) N (usual n)

-- A-09: reduction leaves no inverse neighbours, is idempotent, respects joining, and takes a word with its inverse to nothing
pub reduction : (u v : List ℕ)
    → Reduced (reduced u)
    × (reduced (reduced u) ≡ reduced u)
    × (reduced (u ++ v) ≡ reduced (reduced u ++ reduced v))
    × (reduced (u ++ inverse_of u) ≡ [])
reduction u v = (reduced_none letters u, reduced_idem letters u, reduced_append letters u v, inverse_right letters u)

-- F-02: with m words of S letters after reduction the start graph has S edges and S − m + 1 points
pub start_graph_sizes : (ws : List (List ℕ))
    → (length (start_graph ws).edges ≡ reduced_length ws) × (length (start_graph ws).points + non_empty_words ws ≡ reduced_length ws + 1)
start_graph_sizes ws = (start_edges ws, start_points_lem ws)

-- F-05: each fold takes one edge
pub fold_takes_one_edge : {g h : Graph} {kind : Kind} → FoldStep g h kind → suc (length h.edges) ≡ length g.edges
fold_takes_one_edge = step_edges

-- F-06: every sequence of folds can be continued to a complete one
pub folding_ends : {f g : Graph} {m k : ℕ} → Folding f g m k
    → (h : Graph) × (i : ℕ) × (j : ℕ) × CompleteFolding f h (m + i) (k + j)
folding_ends = folding_continued

-- F-07, F-08: every order of folds ends in the same graph but for names, after as many folds of each kind
pub fold_confluent : (ws : List (List ℕ)) {g h : Graph} {m k i j : ℕ} → CompleteFolding (start_graph ws) g m k
    → CompleteFolding (start_graph ws) h i j → SameNames g h × (m ≡ i) × (k ≡ j)
fold_confluent ws f e = confluent ws f e

-- F-11: all folds together, finished or not, are at most S, so at most L
pub folds_at_most : (text : List ℕ) {h : Graph} {m k : ℕ} → Folding (start_graph (words_of text)) h m k
    → (m + k ≤ reduced_length (words_of text)) × (m + k ≤ letters_in text)
folds_at_most text {h} {m} {k} f =
    (fold_bound (words_of text) f, subst (λ l. m + k ≤ l) (written_letters text) (fold_written (words_of text) f))

-- F-13: the same of prefixes in the final graph of every complete folding
pub prefixes_in_the_folded_graph : (ws : List (List ℕ)) {h : Graph} {m k : ℕ} → CompleteFolding (start_graph ws) h m k
    → (u v : List ℕ) → Prefix ws u → Prefix ws v → EndsAlike ws (Along h.edges) h.base u v
prefixes_in_the_folded_graph ws f = good_prefixes (complete_good ws f) f.1

-- T-05 to T-09: a table has no faulty cell exactly if it is canonical
pub canonical_iff_no_faulty_cell : (n N : ℕ) (t : List ℕ) → 1 ≤ n
    → (faulty_cell N (usual n) (cell n N t) ≡ none) ↔ Canonical N (usual n) (cell n N t)
canonical_iff_no_faulty_cell n N t h = (table_none_canonical n N t h, table_canonical_none n N t)

-- T-10, T-11: the faulty cell is a cell of a broken rule, and no lower cell is
pub faulty_cell_is_lowest : (n N : ℕ) (t : List ℕ) → N ≤ absent → (p : ℕ) → faulty_cell N (usual n) (cell n N t) ≡ some p
    → (v : ℕ) × (y : ℕ) × LowestCell n N t v y × (p ≡ v * (2 * n) + y)
faulty_cell_is_lowest = table_faulty_lowest
