-- What the parts of `fold` say, on plain values.
--   list_refused, rows_refused, work_refused : a refusal at a stage of `fold` is the answer
--   rows_asks                                : a list that is fine has few rows
--   as_much                                  : of as much work the same is said
--   made_outcome, never_refused              : the outcome of `fold_lent`
-- Assumes nothing.
use mathlib.Core.Path.{◌≡◌, refl, sym, ◌∙◌, ap, subst}
use mathlib.Core.Bool.{true}
use mathlib.Core.Option.{Option, none}
use mathlib.Core.List.{List}
use Prim.Native.Nat.{ℕ, ◌+◌, ◌-◌, ◌*◌, ◌≤◌}
use native.Mathlib.Nat.{mul-le-mul_right}
use native.Mathlib.Omega.{arith}
use lib.Dec.{ltb}
use lib.ListN.{length}
use Rattle.std.specs.Prelude.{⊤}
use Rattle.std.specs.declared.result.Result.{Result}
use Rattle.std.specs.declared.result.Result.TheVariants.{Ok, Err}
use Rattle.theory.specs.Letters.{letters_in, words_of, usual}
use Rattle.theory.specs.Refusals.{Refusal as FirstCause, is_alphabet, or_else, refused_if, text_refusal}
use Rattle.theory.specs.TableRefusals.{is_lent, check_refusal, cell_refusal}
use Rattle.theory.specs.Tables.{cell}
use Rattle.theory.specs.Basis.{rank_of}
use Rattle.theory.specs.Graphs.{Graph, start_graph}
use Rattle.theory.specs.Folds.{CompleteFolding}
use Rattle.theory.proofs.RefusalLaws.{alphabet_in}
use Rattle.theory.proofs.TableRefusalLaws.{text_alphabet, in_lent}
use Rattle.theory.proofs.CanonicalLaws.{table_canonical_none}
use Rattle.theory.proofs.StartLaws.{reduced_length_written, written_letters}
use Rattle.theory.proofs.FoldCounts.{folding_exists}
use Rattle.engine.proofs.TableExists.{list_short}
use Rattle.theory.proofs.Main.{fold_counts, start_graph_sizes}
use Rattle.refusals.specs.declared.Refusal.{Refusal}
use Rattle.refusals.specs.declared.Cause.TheVariants.{Work}
use Rattle.refusals.specs.Given.{unless, unless_short}
use Rattle.refusals.proofs.UnlessLaws.{unless_ok, unless_err, short_unless}
use Rattle.refusals.proofs.StageLaws.{err_first, ok_next}
use Rattle.lists.specs.declared.StartSize.{StartSize}
use Rattle.tables.specs.declared.Figures.{Figures}
use Rattle.tables.specs.Checks.{figures_as, checked_as}
use Rattle.folds.specs.declared.BuildSize.{BuildSize}
use Rattle.folds.specs.declared.FoldFigures.{FoldFigures}
use Rattle.folds.specs.Causes.{rows_of, work_of, lent_refusal, fold_refusal}
use Rattle.folds.specs.Folds.{Done, OutcomeFor, FoldOutcome}
use Rattle.folds.specs.Rows.{Foldable, Built}
use Rattle.folds.proofs.BuildLaws.{rows_few}
use Rattle.folds.proofs.CauseLaws.{fine_fold}

-- what is said of so much work is said of as much
pub as_much : (needed m k : ℕ) {x : Result ⊤ Refusal} → x ≡ unless_short Work needed m → m ≡ k → x ≡ unless_short Work needed k
as_much needed m k h e = h ∙ ap (unless_short Work needed) e

module _ (n : ℕ) (list table work : List ℕ) where
  -- the stages: the list, its rows, its work cells
  abbrev by_list : Option FirstCause
  by_list = text_refusal n true list

  abbrev by_rows : ℕ → Option FirstCause
  by_rows rows = refused_if (ltb (length table) (rows * (2 * n))) 6 0

  abbrev by_work : Option FirstCause
  by_work = refused_if (ltb (length work) (work_of list)) 7 (work_of list)

  -- what is said of a list that is refused
  refused : {r : Refusal} → Err r ≡ unless (fold_refusal n list (length table) (length work)) (tt {0}) → FoldOutcome n list table work (Err r) table work
  refused {r} e =
      let q = unless_err (fold_refusal n list (length table) (length work)) (tt {0}) e in
      subst (λ o. OutcomeFor n list table work o (Err r) table work) (sym q.1) (ap Err q.2, refl, refl)

  pub list_refused : {r : Refusal} → Err r ≡ unless by_list (tt {0}) → FoldOutcome n list table work (Err r) table work
  unfolding fold_refusal
  list_refused e = refused (err_first by_list (tt {0}) (tt {0}) (lent_refusal n list (length table) (length work)) e)

  -- the list is fine: rows and work cells decide
  module _ {u : ⊤} (a : Ok u ≡ unless by_list (tt {0})) {letters : ℕ} (count : letters ≡ letters_in list) where
    abbrev rows : ℕ
    rows = letters + 1

    is : rows ≡ rows_of list
    is = ap (λ k. k + 1) count

    fine : by_list ≡ none
    fine = (unless_ok by_list (tt {0}) a).0

    pub rows_asks : (n ≤ 26) × (rows ≤ 1048577)
    rows_asks = ((alphabet_in n (text_alphabet n true list fine)).1, omega (arith, is, rows_few n list fine))

    then_lent : {x : Result ⊤ Refusal} → x ≡ unless (or_else (by_rows (rows_of list)) by_work) (tt {0})
        → x ≡ unless (fold_refusal n list (length table) (length work)) (tt {0})
    unfolding fold_refusal lent_refusal
    then_lent e = ok_next by_list (tt {0}) (tt {0}) (or_else (by_rows (rows_of list)) by_work) a e

    rows_are : unless (by_rows rows) (tt {0}) ≡ unless (by_rows (rows_of list)) (tt {0})
    rows_are = ap (λ k. unless (by_rows k) (tt {0})) is

    pub rows_refused : {r : Refusal} → Err r ≡ unless (by_rows rows) (tt {0}) → FoldOutcome n list table work (Err r) table work
    rows_refused e = refused (then_lent (err_first (by_rows (rows_of list)) (tt {0}) (tt {0}) by_work (e ∙ rows_are)))

    -- so are the rows: the work cells decide
    pub work_refused : {v : ⊤} {r : Refusal} → Ok v ≡ unless (by_rows rows) (tt {0}) → Err r ≡ unless_short Work (8 * rows) (length work)
        → FoldOutcome n list table work (Err r) table work
    work_refused b e = refused (then_lent (ok_next (by_rows (rows_of list)) (tt {0}) (tt {0}) by_work (b ∙ rows_are) (e ∙ work_is)))
      where
        work_is : unless_short Work (8 * rows) (length work) ≡ unless by_work (tt {0})
        work_is =
            short_unless Work (8 * rows) (length work) refl
            ∙ ap (λ k. unless (refused_if (ltb (length work) (8 * k)) 7 (8 * k)) (tt {0})) is

-- ── The fold ──

module _ {n : ℕ} {list table work : List ℕ} (h : Foldable n list table work) where
  module _ {g : BuildSize} {t w : List ℕ} (b : Built n list table work g t w) where
    ws : List (List ℕ)
    ws = words_of list

    abbrev N : ℕ
    N = g.points

    abbrev st : StartSize
    st = g.start

    -- the start graph is small
    pub start_small : st.edges ≤ 1048576
    start_small =
        omega (arith, b.sizes.edges, (start_graph_sizes (words_of list)).0, reduced_length_written (words_of list), written_letters list, list_short n list h.fine)

    alphabet : is_alphabet n ≡ true
    alphabet = text_alphabet n true list h.fine

    lent : is_lent n N (length t) ≡ true
    lent =
        in_lent n N (length t) b.subgroup.based (omega (arith, b.cleared.used, rows_few n list h.fine))
        (omega (arith, mul-le-mul_right (2 * n) b.cleared.used, h.rows, b.cleared.same))

    unrefused_check : check_refusal n N t ≡ none
    unfolding check_refusal cell_refusal
    unrefused_check = rw (alphabet, lent, table_canonical_none n N t b.subgroup.canonical)

    pub never_refused : {q : Refusal} → Err q ≡ checked_as n N t → ⊥
    unfolding checked_as
    never_refused e =
        let c = unless_err (check_refusal n N t) (figures_as n N t) e in
        let same = sym unrefused_check ∙ c.1 in
        let y : ◌≡◌ {A = ℕ} 0 1 = cc in omega arith

    module _ {cs : Figures} (e : Ok cs ≡ checked_as n N t) where
      figures : cs ≡ figures_as n N t
      unfolding checked_as
      figures = (unless_ok (check_refusal n N t) (figures_as n N t) e).1

      rank_is : cs.rank ≡ rank_of (cell n N t) N (usual n)
      unfolding figures_as
      rank_is = ap (λ g. g.rank) figures

      -- the counts of any complete folding
      folds_are : (g : Graph) (i j : ℕ) → CompleteFolding (start_graph ws) g i j
          → (i + N ≡ st.points) × (j + cs.rank + st.points ≡ st.edges + 1)
      unfolding ws
      folds_are g i j k =
          let q = fold_counts b.subgroup k in
          let s = start_graph_sizes ws in
          (omega (arith, q.0, b.sizes.points), omega (arith, q.1, rank_is, s.0, s.1, b.sizes.points, b.sizes.edges))

      -- and one there is
      some_fold : (i : ℕ) × (j : ℕ) × (i + N ≡ st.points) × (j + cs.rank + st.points ≡ st.edges + 1)
      some_fold =
          let k = folding_exists (start_graph ws) in
          let q = folds_are k.0 k.1 k.2 k.3 in (k.1, k.2, q.0, q.1)

      pub merging_fits : N ≤ st.points
      merging_fits = omega (arith, some_fold.2)

      pub points_fit : st.points ≤ st.edges + 1
      points_fit = omega (arith, some_fold.3)

      pub closing_fits : cs.rank ≤ st.edges + 1 - st.points
      closing_fits = omega (arith, some_fold.3)

      pub made_outcome
          : FoldOutcome n list table work
          (Ok (record { points = N; counts = cs; start = st; merging = st.points - N; closing = st.edges + 1 - st.points - cs.rank })) t w
      unfolding ws
      made_outcome =
          subst (λ o. OutcomeFor n list table work o (Ok made) t w) (sym (fine_fold n list (length table) (length work) h.fine h.rows h.room)) (made, refl, done)
        where
          made : FoldFigures
          made = record { points = N; counts = cs; start = st; merging = st.points - N; closing = st.edges + 1 - st.points - cs.rank }

          done : Done n list table work made t w
          done =
              record {
                subgroup = b.subgroup;
                cleared = b.cleared;
                counts = figures;
                start_points = b.sizes.points;
                start_edges = b.sizes.edges;
                folds = λ g i j k. let q = folds_are g i j k in (omega (arith, q.0), omega (arith, q.1));
              }
