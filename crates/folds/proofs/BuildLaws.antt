-- What the parts of `build` ask and leave, on plain values.
--   rows_few       : a list that is not refused has few rows
--   fresh-state    : a table of absent marks and one forward cell hold the base alone
--   cell_fewer     : a table whose other rows are empty, read with fewer rows
--   build_prepared, number_ready, number_roomed, built : the parts of `build`
-- Assumes nothing.
use mathlib.Core.Path.{◌≡◌, refl, sym, ◌∙◌, ap, subst, fun_ext}
use mathlib.Core.Logic.{by_cases}
use mathlib.Core.Bool.{true}
use mathlib.Core.Option.{none}
use mathlib.Core.List.{List, [], ◌++◌}
use Prim.Native.Nat.{ℕ, zero, suc, ◌+◌, ◌*◌, ◌≤◌, ◌<◌}
use native.Mathlib.Decide.{ℕ_discrete, dec_lt}
use native.Mathlib.Omega.{arith}
use lib.ListN.{length, get_or, drop, replicate, length-replicate, get_or-replicate, get_or-append}
use Rattle.theory.specs.Words.{Member}
use Rattle.theory.specs.Letters.{words_of, usual}
use Rattle.theory.specs.Refusals.{text_refusal}
use Rattle.theory.specs.Tables.{absent, Cells, cell}
use Rattle.theory.specs.Canonical.{Canonical}
use Rattle.theory.specs.Graphs.{start_points}
use Rattle.theory.specs.Subgroups.{AcceptsExactly}
use Rattle.theory.proofs.TableLaws.{Bounded, cell_in, cell_here, row_below, cell_bounded, length_usual, get_or_usual}
use Rattle.theory.proofs.RefusalLaws.{alphabet_in}
use Rattle.theory.proofs.TableRefusalLaws.{text_alphabet}
use Rattle.cells.specs.Filled.{filled}
use Rattle.cells.proofs.FillTurn.{length_filled, filled_drop}
use Rattle.engine.specs.Roots.{Falls, root_of}
use Rattle.engine.specs.Engine.{State, start, folded}
use Rattle.engine.specs.Stages.{Settled}
use Rattle.engine.specs.Numbering.{Ready}
use Rattle.engine.specs.Work.{forward_of, pending_of}
use Rattle.engine.proofs.RootLaws.{root_own}
use Rattle.engine.proofs.WorkLaws.{forward_in, forward_own}
use Rattle.engine.proofs.FoldLaws.{folded_exact}
use Rattle.engine.proofs.FoldedTable.{settled_ready, usual_closed}
use Rattle.engine.proofs.TableExists.{good_words, all_words, list_points, list_short}
use Rattle.rooms.specs.declared.Room.{Room}
use Rattle.rooms.specs.Rooms.{state_in}
use Rattle.rooms.proofs.UniteLaws.{drop_behind}
use Rattle.lists.specs.declared.StartSize.{StartSize}
use Rattle.numbering.specs.Numbered.{Roomed, NumberedIn}
use Rattle.numbering.proofs.Numbers.{number_canonical, number_bounded, number_base, number_fits, number_exact}
use Rattle.folds.specs.Causes.{rows_of}
use Rattle.folds.specs.Folds.{Cleared}
use Rattle.folds.specs.Rows.{Prepared, WordsIn, Foldable, Built}

-- ── Sizes ──

pub rows_few : (n : ℕ) (list : List ℕ) → text_refusal n true list ≡ none → rows_of list ≤ 1048577
rows_few n list e = omega (arith, list_short n list e)

-- ── Cells ──

absent_unless : (c : Cells) (v y : ℕ) → ((c v y ≡ absent → ⊥) → ⊥) → c v y ≡ absent
absent_unless c v y f = by_cases (ℕ_discrete (c v y) absent) (λ e. e) (λ d. absurd (f d))

-- a letter that stands in the usual order is below 2n
stands_below : (n N : ℕ) (t : List ℕ) (v y : ℕ) → (cell n N t v y ≡ absent → ⊥) → (v < N) × (y < 2 * n)
stands_below n N t v y d =
    let b = cell_bounded n N t v y d in
    (b.0, omega (arith, b.1.2, get_or_usual n b.1.0 (omega (arith, b.1.1, length_usual n)), b.1.1, length_usual n))

-- cells within the first of two runs
get_d_front : (k v d : ℕ) (l : List ℕ) (i : ℕ) → i < k → get_or (replicate k v ++ l) i d ≡ v
get_d_front k v d l i h =
    get_or-append (replicate k v) l d i (omega (arith, length-replicate {A = ℕ} k v)) ∙ get_or-replicate k i v d h

-- a table filled with the absent mark has no cells
pub fresh_cells : (n R : ℕ) (table : List ℕ) → cell n R (filled (R * (2 * n)) absent table) ≡ (λ v y. absent)
unfolding filled
fresh_cells n R table =
    fun_ext (λ v. fun_ext (λ y. absent_unless (cell n R (filled (R * (2 * n)) absent table)) v y (λ d.
    let b = stands_below n R (filled (R * (2 * n)) absent table) v y d in
    d (cell_in n R (filled (R * (2 * n)) absent table) v y b.0 b.1
    ∙ get_d_front (R * (2 * n)) absent absent (drop (R * (2 * n)) table) (v * (2 * n) + y) (omega (arith, b.1, row_below R (2 * n) v b.0))))))

-- rows that are empty may be left out
pub cell_fewer : (n N R : ℕ) (t : List ℕ) → N ≤ R → Bounded (cell n R t) N (usual n) → cell n N t ≡ cell n R t
cell_fewer n N R t l b = fun_ext (λ v. fun_ext (λ y. same v y))
  where
    same : (v y : ℕ) → cell n N t v y ≡ cell n R t v y
    same v y =
        by_cases (dec_lt v N)
        (λ hv. by_cases (dec_lt y (2 * n))
        (λ hy. cell_in n N t v y hv hy ∙ sym (cell_in n R t v y (omega arith) hy))
        (λ hy. absent_unless (cell n N t) v y (λ d. hy (stands_below n N t v y d).1)
        ∙ sym (absent_unless (cell n R t) v y (λ d. hy (stands_below n R t v y d).1))))
        (λ hv. absent_unless (cell n N t) v y (λ d. hv (stands_below n N t v y d).0)
        ∙ sym (absent_unless (cell n R t) v y (λ d. hv (b v y d).0)))

-- ── The base alone ──

module _ (work : List ℕ) where
  abbrev f : ℕ → ℕ
  f = forward_of (filled 1 0 work) 1

  -- each name is its own
  own : (v : ℕ) → f v ≡ v
  unfolding filled
  own zero = forward_in (filled 1 0 work) 1 0 (omega arith)
  own (suc v) = forward_own (filled 1 0 work) 1 (suc v) (omega arith)

  pub fresh_falls : Falls f
  fresh_falls v = omega (arith, own v)

  pub fresh_roots : root_of f ≡ (λ v. v)
  fresh_roots = fun_ext (λ v. root_own f fresh_falls v (own v))

-- so the state is that of the base alone
fresh_as : {c : Cells} {g : ℕ → ℕ} {ps : List ℕ} → c ≡ (λ v y. absent) → g ≡ (λ v. v) → ps ≡ []
    → record { cells = c; root = g; pending = ps; made = 1 } ≡ start
unfolding start
fresh_as a b d = λ i. record { cells = a i; root = b i; pending = d i; made = 1 }

no_pending : (l : List ℕ) → pending_of l 0 ≡ []
unfolding pending_of
no_pending l = refl

-- ── The parts ──

module _ {n : ℕ} {list table work : List ℕ} (h : Foldable n list table work) {rows : ℕ} (e : rows ≡ rows_of list) where
  sizes : (1 ≤ n) × (n ≤ 26)
  sizes = alphabet_in n (text_alphabet n true list h.fine)

  pub few : rows ≤ 1048577
  few = omega (arith, e, rows_few n list h.fine)

  pub fill_asks : rows * (2 * n) ≤ length table
  fill_asks = subst (λ k. k * (2 * n) ≤ length table) (sym e) h.rows

  pub work_asks : 8 * rows ≤ length work
  work_asks = omega (arith, e, h.room)

  abbrev room : Room
  room = record { n = n; rows = rows; made = 1 }

  module _ {t₁ w₁ : List ℕ} (et : t₁ ≡ filled (rows * (2 * n)) absent table) (ew : w₁ ≡ filled 1 0 work) where
    long₁ : length w₁ ≡ length work
    long₁ = ap length ew ∙ length_filled 1 0 work (omega (arith, work_asks, e))

    same₁ : length t₁ ≡ length table
    same₁ = ap length et ∙ length_filled (rows * (2 * n)) absent table fill_asks

    pub build_prepared : Prepared room list t₁ w₁
    build_prepared =
        record {
          lent =
              record {
                some = sizes.0;
                most = sizes.1;
                inside = omega (arith, e);
                fits = omega (arith, few);
                lent = subst (λ k. rows * (2 * n) ≤ k) (sym same₁) fill_asks;
                room = omega (arith, long₁, work_asks);
                falls = subst (λ l. Falls (forward_of l 1)) (sym ew) (fresh_falls work);
              };
          fresh = fresh;
          fine = h.fine;
          rows = e;
        }
      where
        cells_are : cell n rows t₁ ≡ (λ v y. absent)
        cells_are = ap (cell n rows) et ∙ fresh_cells n rows table

        roots_are : root_of (forward_of w₁ 1) ≡ (λ v. v)
        roots_are = ap (λ l. root_of (forward_of l 1)) ew ∙ fresh_roots work

        fresh : state_in room t₁ w₁ 0 ≡ start
        fresh = fresh_as cells_are roots_are (no_pending (drop rows w₁))

    module _ {st : StartSize} {t₂ w₂ : List ℕ} (k : WordsIn room list t₁ w₁ st t₂ w₂) where
      abbrev ws : List (List ℕ)
      ws = words_of list

      abbrev done : State
      done = folded (usual n) start ws

      exact : Settled (Member ws) (usual n) ws done × (done.pending ≡ []) × (done.made ≤ start_points ws) × AcceptsExactly done.cells ws
      exact =
          folded_exact (usual n) (usual_closed n) ws (all_words (usual n) ws (good_words n list h.fine))
          (omega (arith, list_points list, few, e))

      cells_folded : cell n rows t₂ ≡ done.cells
      cells_folded = ap (λ s. s.cells) k.state

      pub number_ready : Ready (usual n) rows (cell n rows t₂)
      number_ready =
          subst (Ready (usual n) rows) (sym cells_folded)
          (settled_ready exact.0 exact.1 rows (omega (arith, exact.2, list_points list, e)) (omega (arith, few)))

      pub number_roomed : Roomed n rows t₂
      number_roomed =
          record {
            inverse = number_ready.turn;
            some = sizes.0;
            most = sizes.1;
            fits = omega (arith, few);
            lent = subst (λ j. rows * (2 * n) ≤ j) (sym (k.table_same ∙ same₁)) fill_asks;
          }

      pub clear_asks : 8 * rows ≤ length w₂
      clear_asks = omega (arith, k.work_same, long₁, work_asks)

      module _ {N : ℕ} {t₃ w₃ : List ℕ} (m : NumberedIn n rows t₂ N t₃) (ez : w₃ ≡ filled (8 * rows) 0 w₂) where
        some : 1 ≤ rows
        some = omega (arith, e)

        empty : Bounded (cell n rows t₃) N (usual n)
        empty = number_bounded number_ready some m

        fewer : cell n N t₃ ≡ cell n rows t₃
        fewer = cell_fewer n N rows t₃ (number_fits number_ready some m) empty

        table_same : length t₃ ≡ length table
        table_same = m.table.same ∙ k.table_same ∙ same₁

        cleared : Cleared n rows N table work t₃ w₃
        unfolding filled
        cleared =
            record {
              used = number_fits number_ready some m;
              same = table_same;
              unused = λ v y a b c.
                  cell_here n rows t₃ v y b c (subst (λ j. rows * (2 * n) ≤ j) (sym table_same) fill_asks)
                  ∙ absent_unless (cell n rows t₃) v y (λ d. omega (arith, (empty v y d).0));
              rest = m.table.rest ∙ k.table_rest ∙ ap (drop (rows * (2 * n))) et ∙ filled_drop (rows * (2 * n)) absent table;
              zeros = ez ∙ ap (λ l. replicate (8 * rows) 0 ++ l) behind;
            }
          where
            first : drop 1 w₁ ≡ drop 1 work
            first = ap (drop 1) ew ∙ filled_drop 1 0 work

            behind : drop (8 * rows) w₂ ≡ drop (8 * rows) work
            behind =
                drop_behind (3 * rows) (8 * rows) w₂ w₁ (omega arith) k.work_rest
                ∙ drop_behind 1 (8 * rows) w₁ work (omega (arith, e)) first

        pub built : Built n list table work (record { points = N; start = st }) t₃ w₃
        built =
            record {
              subgroup =
                  record {
                    based = number_base number_ready some m;
                    canonical = subst (Canonical N (usual n)) (sym fewer) (number_canonical number_ready some m);
                    accepts = subst (λ c. AcceptsExactly c ws) (sym fewer)
                        (number_exact number_ready some m ws (subst (λ c. AcceptsExactly c ws) (sym cells_folded) exact.3));
                  };
              cleared = subst (λ j. Cleared n j N table work t₃ w₃) e cleared;
              sizes = k.sizes;
            }
