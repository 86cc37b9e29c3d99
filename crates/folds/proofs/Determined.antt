-- The contracts of `fold`, and of its parts `take_words` and `build`, fix their outcome.
--   table_determined : of one list one table is left
--   words_determined, build_determined : two outcomes of `take_words`, and of `build`, that conform on one input are equal, answer and cells
--   (how many points are made and pending, the clauses `made` and `settles` of `take_words` say as equations)
--   fold_determined  : two outcomes that conform on one input are equal, answer and cells
-- One subgroup has one table, the room behind its points is absent, and every complete folding has the same counts. Assumes nothing.
use mathlib.Core.Path.{◌≡◌, refl, sym, ◌∙◌, ap, fun_ext}
use mathlib.Core.Logic.{by_cases}
use mathlib.Core.Bool.{true}
use mathlib.Core.Option.{Option, none, some}
use mathlib.Core.List.{List}
use Prim.Native.Nat.{ℕ, ◌*◌, ◌≤◌}
use native.Mathlib.Decide.{dec_lt}
use native.Mathlib.Omega.{arith}
use lib.ListN.{length}
use borrow.Author.Tests.{lt-ltb, le-ltb}
use Rattle.std.specs.declared.result.Result.{Result}
use Rattle.std.specs.declared.result.Result.TheVariants.{Ok}
use Rattle.theory.specs.Letters.{words_of}
use Rattle.theory.specs.Refusals.{Refusal as FirstCause, text_refusal}
use Rattle.theory.specs.Tables.{absent, Cells, cell}
use Rattle.theory.specs.Graphs.{start_graph}
use Rattle.theory.specs.Subgroups.{TableOf}
use Rattle.theory.proofs.TableLaws.{cell_here}
use Rattle.theory.proofs.FoldCounts.{folding_exists}
use Rattle.theory.proofs.Main.{tables_equal_iff_same_subgroup}
use Rattle.engine.specs.Engine.{State}
use Rattle.engine.specs.Work.{Holds}
use Rattle.engine.proofs.HoldLaws.{holds_first, holds_determined}
use Rattle.tables.specs.Checks.{figures_as}
use Rattle.rooms.specs.declared.Room.{Room}
use Rattle.refusals.specs.declared.Refusal.{Refusal}
use Rattle.lists.specs.declared.StartSize.{StartSize}
use Rattle.folds.specs.declared.BuildSize.{BuildSize}
use Rattle.folds.specs.declared.FoldFigures.{FoldFigures}
use Rattle.folds.specs.Causes.{rows_of, fold_refusal}
use Rattle.folds.specs.Folds.{Cleared, Done, OutcomeFor, FoldOutcome}
use Rattle.folds.specs.Rows.{Prepared, all_in, WordsIn, Foldable, Built}
use Rattle.folds.proofs.CauseLaws.{fine_alphabet, fold_fine}

-- ── Every word taken in ──

module _ {r : Room} {list table work : List ℕ} (p : Prepared r list table work) {f g : StartSize} {t₁ w₁ t₂ w₂ : List ℕ} where
  pub words_determined : WordsIn r list table work f t₁ w₁ → WordsIn r list table work g t₂ w₂ → (f ≡ g) × (t₁ ≡ t₂) × (w₁ ≡ w₂)
  words_determined h k = (
    sizes (h.sizes.points ∙ sym k.sizes.points) (h.sizes.edges ∙ sym k.sizes.edges),
    holds_determined p.lent.some p.lent.lent (held h) (held k),
    h.cells ∙ sym k.cells,
  )
    where
      sizes : f.points ≡ g.points → f.edges ≡ g.edges → f ≡ g
      sizes a b = λ i. record { points = a i; edges = b i }

      held : {e : StartSize} {t w : List ℕ} → WordsIn r list table work e t w → Holds r.n r.rows table (all_in r list).cells t
      held m = record { same = m.table_same; cells = λ v y. ap (λ (s : State). s.cells v y) m.state; rest = m.table_rest }

-- ── The fold ──

-- the cells of the room are those of the table
room_cells : {n R N : ℕ} {table work table' work' : List ℕ}
    → R * (2 * n) ≤ length table → Cleared n R N table work table' work' → cell n R table' ≡ cell n N table'
unfolding cell
room_cells {n} {R} {N} {table} {work} {table'} {work'} lent c = fun_ext (λ v. fun_ext (λ y. at v y))
  where
    all : R * (2 * n) ≤ length table'
    all = omega (arith, lent, c.same)

    outside : (v y : ℕ) → N ≤ v → cell n R table' v y ≡ absent
    outside v y h =
        by_cases (dec_lt v R)
        (λ a. by_cases (dec_lt y (2 * n))
        (λ b. sym (cell_here n R table' v y a b all) ∙ c.unused v y h a b)
        (λ b. rw (lt-ltb v R a, le-ltb y (2 * n) (omega arith))))
        (λ a. rw (le-ltb v R (omega arith)))

    at : (v y : ℕ) → cell n R table' v y ≡ cell n N table' v y
    at v y =
        by_cases (dec_lt v N) (λ h. rw (lt-ltb v N h, lt-ltb v R (omega (arith, h, c.used))))
        (λ h. outside v y (omega arith) ∙ sym (rw (le-ltb v N (omega arith))))

-- the tables of one list are equal, with every cell behind
module _ {n N M : ℕ} (list : List ℕ) {table work t₁ w₁ t₂ w₂ : List ℕ}
    (fine : text_refusal n true list ≡ none) (lent : rows_of list * (2 * n) ≤ length table)
    (T : TableOf n N t₁ (words_of list)) (c : Cleared n (rows_of list) N table work t₁ w₁)
    (S : TableOf n M t₂ (words_of list)) (d : Cleared n (rows_of list) M table work t₂ w₂) where
  same_table : (N ≡ M) × ((v y : ℕ) → cell n N t₁ v y ≡ cell n M t₂ v y)
  same_table = (tables_equal_iff_same_subgroup T S).1 (record { onward = λ q m. m; back = λ q m. m })

  pub table_determined : t₁ ≡ t₂
  table_determined =
      holds_determined (fine_alphabet n list fine).0 (omega (arith, lent, c.same)) (holds_first n (rows_of list) t₁) other
    where
      first : cell n (rows_of list) t₁ ≡ cell n N t₁
      first = room_cells lent c

      second : cell n (rows_of list) t₂ ≡ cell n M t₂
      second = room_cells lent d

      other : Holds n (rows_of list) t₁ (cell n (rows_of list) t₁) t₂
      other =
          record {
            same = d.same ∙ sym c.same;
            cells = λ v y. ap (λ (f : Cells). f v y) second ∙ sym (ap (λ (f : Cells). f v y) first ∙ same_table.1 v y);
            rest = d.rest ∙ sym c.rest;
          }

-- and so is all that `build` leaves and says
pub build_determined : {n : ℕ} {list table work : List ℕ} → Foldable n list table work → {f g : BuildSize} {t₁ w₁ t₂ w₂ : List ℕ}
    → Built n list table work f t₁ w₁ → Built n list table work g t₂ w₂ → (f ≡ g) × (t₁ ≡ t₂) × (w₁ ≡ w₂)
build_determined {n} {list} p {f} {g} h k = (
  sizes (same_table list p.fine p.rows h.subgroup h.cleared k.subgroup k.cleared).0
      (h.sizes.points ∙ sym k.sizes.points) (h.sizes.edges ∙ sym k.sizes.edges),
  table_determined list p.fine p.rows h.subgroup h.cleared k.subgroup k.cleared,
  h.cleared.zeros ∙ sym k.cleared.zeros,
)
  where
    sizes : f.points ≡ g.points → f.start.points ≡ g.start.points → f.start.edges ≡ g.start.edges → f ≡ g
    sizes a b c = λ i. record { points = a i; start = record { points = b i; edges = c i } }

module _ {n : ℕ} {list table work : List ℕ} {f g : FoldFigures} {t₁ w₁ t₂ w₂ : List ℕ}
    (clear : fold_refusal n list (length table) (length work) ≡ none)
    (h : Done n list table work f t₁ w₁) (k : Done n list table work g t₂ w₂) where
  fine : (text_refusal n true list ≡ none) × (rows_of list * (2 * n) ≤ length table) × (8 * rows_of list ≤ length work)
  fine = fold_fine n list (length table) (length work) clear

  same_cells_lem : t₁ ≡ t₂
  same_cells_lem = table_determined list fine.0 fine.1 h.subgroup h.cleared k.subgroup k.cleared

  same_points : f.points ≡ g.points
  same_points = (same_table list fine.0 fine.1 h.subgroup h.cleared k.subgroup k.cleared).0

  same_figures : f ≡ g
  same_figures =
      λ i. record { points = same_points i; counts = counts i; start = start i; merging = folds.0 i; closing = folds.1 i }
    where
      counts : f.counts ≡ g.counts
      counts =
          h.counts ∙ ap (λ N. figures_as n N t₁) same_points ∙ ap (figures_as n g.points) same_cells_lem ∙ sym k.counts

      points : f.start.points ≡ g.start.points
      points = h.start_points ∙ sym k.start_points

      edges : f.start.edges ≡ g.start.edges
      edges = h.start_edges ∙ sym k.start_edges

      start : f.start ≡ g.start
      start = λ i. record { points = points i; edges = edges i }

      folds : (f.merging ≡ g.merging) × (f.closing ≡ g.closing)
      folds =
          let x = folding_exists (start_graph (words_of list)) in
          let a = h.folds x.0 x.1 x.2 x.3 in
          let b = k.folds x.0 x.1 x.2 x.3 in
          (a.0 ∙ sym b.0, a.1 ∙ sym b.1)

pub fold_determined : (n : ℕ) (list table work : List ℕ) {r s : Result FoldFigures Refusal} {table₁ work₁ table₂ work₂ : List ℕ}
    → FoldOutcome n list table work r table₁ work₁ → FoldOutcome n list table work s table₂ work₂
    → (r ≡ s) × (table₁ ≡ table₂) × (work₁ ≡ work₂)
fold_determined n list table work {r} {s} {table₁} {work₁} {table₂} {work₂} =
    go (fold_refusal n list (length table) (length work)) refl
  where
    go : (o : Option FirstCause) → fold_refusal n list (length table) (length work) ≡ o
        → OutcomeFor n list table work o r table₁ work₁ → OutcomeFor n list table work o s table₂ work₂
        → (r ≡ s) × (table₁ ≡ table₂) × (work₁ ≡ work₂)
    go none e h k = (
      h.1 ∙ ap Ok (same_figures e h.2 k.2) ∙ sym k.1,
      same_cells_lem e h.2 k.2,
      h.2.cleared.zeros ∙ sym k.2.cleared.zeros,
    )
    go (some c) e h k = (h.0 ∙ sym k.0, h.1 ∙ sym k.1, h.2 ∙ sym k.2)
