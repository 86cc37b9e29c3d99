-- The sweep on plain values (`specs/Steps`, `tally_at`): a cell passed, a row passed, and how far the tally can grow.
--   outside_append, outside-more : edges outside the paths, of spots one behind the other
--   met_dense   : in a sound table every point up to the greatest met is met
--   new_path    : an edge to a point beyond the greatest met is a path's; old_step : one to a point met before ends no path
--   pass_absent, pass_new, pass_capital, pass_path, pass_outside : what a cell that is passed leaves
--   tally_zero, tally_whole, tally_start : the tally before a row, after it, and before all rows
--   tally_few   : there are no more edges than cells
-- Assumes nothing.
use mathlib.Core.Path.{◌≡◌, refl, sym, ◌∙◌, ap, subst}
use mathlib.Core.Logic.{inl, ⊎_elim, by_cases}
use mathlib.Core.Bool.{Bool, true, false, not}
use mathlib.Core.List.{List, [], ◌∷◌, ◌++◌, append-nil}
use Prim.Native.Nat.{ℕ, zero, suc, ◌+◌, ◌*◌, ◌%◌, ◌≤◌, ◌<◌, max}
use native.Mathlib.Nat.{suc-mul}
use native.Mathlib.Decide.{ℕ_discrete}
use native.Mathlib.Numerals.{add-one}
use native.Mathlib.Omega.{arith}
use lib.Dec.{eqb}
use lib.ListN.{length, take, length-append, length-take}
use borrow.Author.Tests.{eq-eqb, ne_eqb}
use Rattle.theory.specs.Letters.{usual}
use Rattle.theory.specs.Tables.{absent, Cells, cell}
use Rattle.theory.specs.Graphs.{is_lower}
use Rattle.theory.specs.Canonical.{rows_before, earlier, greatest_met}
use Rattle.theory.specs.Basis.{Spot, spots_of, scan, is_path_step, is_path_edge, those, is_edge}
use Rattle.theory.proofs.WordLaws.{by_test}
use Rattle.theory.proofs.TableLaws.{length_usual, get_or_usual, row_below}
use Rattle.theory.proofs.PlaceLaws.{fails}
use Rattle.theory.proofs.RowLaws.{earlier_start, cell_of_earlier}
use Rattle.theory.proofs.PathLaws.{spot}
use Rattle.theory.proofs.EdgeLaws.{those_length, is_path_step_sound, is_path_step_complete}
use Rattle.tables.proofs.LentLaws.{product_small, IsSound}
use Rattle.tables.proofs.ScanLaws.{
  and_none,
  those_append,
  spots_to,
  length_spots,
  spots_more,
  spots_row,
  Dense,
  dense_more,
  dense_absent,
  greatest_more,
  greatest_absent,
  before_more,
  before_row,
  first_here,
}
use Rattle.edges.specs.declared.Tally.{Tally}
use Rattle.edges.specs.Edges.{is_outside, outside_in, tally_before}
use Rattle.edges.specs.Steps.{place_back, step_place, tally_at}
use Rattle.edges.proofs.StepLaws.{back_test, first_least}

-- equal parts, equal tallies
pub tally_eq : {a b d e : ℕ} → a ≡ d → b ≡ e → ◌≡◌ {A = Tally} (record { met = a; edges = b }) (record { met = d; edges = e })
tally_eq p q = λ i. record { met = p i; edges = q i }

-- ── Edges outside the paths among spots ──

module _ (c : Cells) (N : ℕ) (ys : List ℕ) where
  -- the test of a spot
  abbrev outside : Spot → Bool
  outside s = is_outside c N ys s.point s.letter

  pub outside_append : (a b : List Spot) → outside_in c N ys (a ++ b) ≡ outside_in c N ys a ++ outside_in c N ys b
  unfolding outside_in
  outside_append a b =
      ap (those outside) (those_append (is_edge c) a b) ∙ those_append outside (those (is_edge c) a) (those (is_edge c) b)

  -- an edge outside the paths stands in front of the later ones
  pub outside_first : (s : Spot) (l : List Spot) → is_edge c s ≡ true → is_outside c N ys s.point s.letter ≡ true
      → outside_in c N ys (s ∷ l) ≡ s ∷ outside_in c N ys l
  unfolding outside_in those
  outside_first s l e o = rw (e, o)

  outside_none : outside_in c N ys [] ≡ []
  unfolding outside_in those
  outside_none = refl

  no_edge : (s : Spot) → is_edge c s ≡ false → outside_in c N ys (s ∷ []) ≡ []
  unfolding outside_in those
  no_edge s e = rw e

  on_path_lem : (s : Spot) → is_outside c N ys s.point s.letter ≡ false → outside_in c N ys (s ∷ []) ≡ []
  unfolding outside_in those
  on_path_lem s o = by_test (is_edge c s) (λ e. rw (e, o)) (λ e. rw e)

  outside_few : (l : List Spot) → length (outside_in c N ys l) ≤ length l
  unfolding outside_in
  outside_few l = omega (arith, those_length (is_edge c) l, those_length outside (those (is_edge c) l))

length_scan : (ys : List ℕ) (v : ℕ) → length (scan v ys) ≡ v * length ys
unfolding scan
length_scan ys zero = omega arith
length_scan ys (suc v) =
    length-append (scan v ys) (spots_of ys v) ∙ omega (arith, length_scan ys v, length_spots ys v, suc-mul v (length ys))

module _ (n v : ℕ) where
  spots_few : (y : ℕ) → length (spots_to (usual n) v y) ≤ v * (2 * n) + y
  spots_few y =
      omega (
        arith,
        length-append (scan v (usual n)) (take y (spots_of (usual n) v)),
        length-take y (spots_of (usual n) v),
        length_scan (usual n) v,
        ap (λ k. v * k) (length_usual n),
      )

-- ── Points met ──

module _ {n N : ℕ} {t : List ℕ} (S : IsSound n N t) where
  abbrev c : Cells
  c = cell n N t

  abbrev before : ℕ → ℕ → List ℕ
  before v y = earlier (cell n N t) (usual n) v y

  -- a cell more, absent or of at most the next point
  dense_cell : (v y : ℕ) → y < 2 * n → Dense (before v y) (greatest_met (before v y)) → Dense (before v (suc y)) (greatest_met (before v (suc y)))
  dense_cell v y h d =
      subst (λ l. Dense l (greatest_met l)) (sym (before_more c n v y h))
      (by_cases (ℕ_discrete (c v y) absent)
      (λ m. subst (Dense l) (sym (greatest_absent (before v y) (c v y) m)) (dense_absent (before v y) (greatest_met (before v y)) (c v y) d))
      (λ m. subst (Dense l) (sym (greatest_more (before v y) (c v y) m))
      (dense_more (before v y) (greatest_met (before v y)) (c v y) d m
      (S.canonical.next v y (c v y) (omega (arith, length_usual n)) (ap (c v) (get_or_usual n y h), m)))))
    where
      l : List ℕ
      l = before v y ++ (c v y ∷ [])

  dense_row : (v : ℕ) → Dense (before v 0) (greatest_met (before v 0)) → (y : ℕ) → y ≤ 2 * n → Dense (before v y) (greatest_met (before v y))
  dense_row v d zero h = d
  dense_row v d (suc y) h = dense_cell v y (omega arith) (dense_row v d y (omega arith))

  dense_rows : (v : ℕ) → Dense (before v 0) (greatest_met (before v 0))
  unfolding greatest_met
  dense_rows zero = subst (λ l. Dense l (greatest_met l)) (sym (earlier_start c (usual n))) (λ x h. inl (omega arith))
  dense_rows (suc v) = subst (λ l. Dense l (greatest_met l)) (sym (before_row c n v)) (dense_row v (dense_rows v) (2 * n) (omega arith))

  met_dense : (v y : ℕ) → y ≤ 2 * n → Dense (before v y) (greatest_met (before v y))
  met_dense v y h = dense_row v (dense_rows v) y h

  module _ (v y : ℕ) (hv : v < N) (hy : y < 2 * n) where
    new_path : (c v y ≡ absent → ⊥) → greatest_met (before v y) < c v y → is_outside c N (usual n) v y ≡ false
    unfolding is_outside is_path_edge
    new_path m g = rw (is_path_step_complete c N (usual n) v y (c v y) refl (λ z. omega (arith, g), first_here c n v y N hv hy m g))

    -- a point met before is not first met here
    old_step : (c v y ≡ absent → ⊥) → c v y ≤ greatest_met (before v y) → is_path_step c N (usual n) v y ≡ false
    old_step m g = fails (is_path_step c N (usual n) v y) never
      where
        never : is_path_step c N (usual n) v y ≡ true → ⊥
        never e =
            let s = is_path_step_sound c N (usual n) v y (c v y) refl e in
            ⊎_elim (λ z. s.0 z)
            (λ a. let r = cell_of_earlier c (usual n) v y (c v y) a.0 in
            let h : r.1 < 2 * n = omega (arith, length_usual n, r.3) in
            first_least S v y (c v y) s r.0 r.1 r.2 h (ap (c r.0) (sym (get_or_usual n r.1 h)) ∙ r.4))
            (met_dense v y (omega arith) (c v y) g)

    old_test : (c v y ≡ absent → ⊥) → c v y ≤ greatest_met (before v y) → is_outside c N (usual n) v y ≡ not (eqb (place_back c N (2 * n) v y) (step_place n N t v))
    unfolding is_outside is_path_edge
    old_test m g = rw (old_step m g, back_test S v y (c v y) (refl, m))

    -- ── A cell passed ──

    edges_kept : outside_in c N (usual n) (spot v y ∷ []) ≡ [] → (tally_at c N (usual n) v y).edges ≡ (tally_at c N (usual n) v (suc y)).edges
    unfolding tally_at
    edges_kept e =
        sym (ap length (ap (outside_in c N (usual n)) (spots_more n v y hy) ∙ outside_append c N (usual n) (spots_to (usual n) v y) (spot v y ∷ []) ∙ ap (λ l. outside_in c N (usual n) (spots_to (usual n) v y) ++ l) e ∙ append-nil (outside_in c N (usual n) (spots_to (usual n) v y))))

    edges_more : outside_in c N (usual n) (spot v y ∷ []) ≡ spot v y ∷ [] → (tally_at c N (usual n) v y).edges + 1 ≡ (tally_at c N (usual n) v (suc y)).edges
    unfolding tally_at
    edges_more e =
        sym (ap length (ap (outside_in c N (usual n)) (spots_more n v y hy) ∙ outside_append c N (usual n) (spots_to (usual n) v y) (spot v y ∷ []) ∙ ap (λ l. outside_in c N (usual n) (spots_to (usual n) v y) ++ l) e)
        ∙ length-append (outside_in c N (usual n) (spots_to (usual n) v y)) (spot v y ∷ []))

    met_is : (tally_at c N (usual n) v y).met ≡ greatest_met (before v y)
    unfolding tally_at
    met_is = refl

    met_absent : c v y ≡ absent → (tally_at c N (usual n) v y).met ≡ (tally_at c N (usual n) v (suc y)).met
    unfolding tally_at
    met_absent e = sym (ap greatest_met (before_more c n v y hy) ∙ greatest_absent (before v y) (c v y) e)

    met_there : (c v y ≡ absent → ⊥) → max (tally_at c N (usual n) v y).met (c v y) ≡ (tally_at c N (usual n) v (suc y)).met
    unfolding tally_at
    met_there m = sym (ap greatest_met (before_more c n v y hy) ∙ greatest_more (before v y) (c v y) m)

    next_is : tally_at c N (usual n) v (suc y) ≡ tally_at c N (usual n) v (y + 1)
    next_is = ap (tally_at c N (usual n) v) (sym (add-one y))

    module _ {tally : Tally} {x : ℕ} (T : tally ≡ tally_at (cell n N t) N (usual n) v y) (q : x ≡ cell n N t v y) where
      met_then : tally.met ≡ greatest_met (before v y)
      met_then = ap (λ (a : Tally). a.met) T ∙ met_is

      edges_then : tally.edges ≡ (tally_at c N (usual n) v y).edges
      edges_then = ap (λ (a : Tally). a.edges) T

      -- a cell that adds no edge
      kept : outside_in c N (usual n) (spot v y ∷ []) ≡ [] → {m : ℕ} → m ≡ (tally_at c N (usual n) v (suc y)).met
          → ◌≡◌ {A = Tally} (record { met = m; edges = tally.edges }) (tally_at c N (usual n) v (y + 1))
      kept e p = tally_eq p (edges_then ∙ edges_kept e) ∙ next_is

      pub pass_absent : x ≡ absent → tally ≡ tally_at (cell n N t) N (usual n) v (y + 1)
      pass_absent e =
          let a : c v y ≡ absent = sym q ∙ e in
          kept (no_edge c N (usual n) (spot v y) (rw (eq-eqb (c v y) absent a) (and_none (is_lower y)))) (ap (λ (a : Tally). a.met) T ∙ met_absent a)

      module _ (m : x ≡ absent → ⊥) where
        there : c v y ≡ absent → ⊥
        there e = m (q ∙ e)

        pub pass_new : tally.met < x → ◌≡◌ {A = Tally} (record { met = x; edges = tally.edges }) (tally_at (cell n N t) N (usual n) v (y + 1))
        pass_new g =
            kept (on_path_lem c N (usual n) (spot v y) (new_path there (omega (arith, met_then, q, g))))
            (let e : x ≡ max (tally_at c N (usual n) v y).met (c v y) = omega (arith, met_is, met_then, q, g) in e ∙ met_there there)

        module _ (g : x ≤ tally.met) where
          met_kept : tally.met ≡ (tally_at c N (usual n) v (suc y)).met
          met_kept =
              let e : tally.met ≡ max (tally_at c N (usual n) v y).met (c v y) = omega (arith, met_is, met_then, q, g) in e ∙ met_there there

          pub pass_capital : (y % 2 ≡ 0 → ⊥) → tally ≡ tally_at (cell n N t) N (usual n) v (y + 1)
          pass_capital l = kept (no_edge c N (usual n) (spot v y) (rw (ne_eqb (y % 2) 0 l))) met_kept

          module _ {b first : ℕ} (d : b ≡ place_back (cell n N t) N (2 * n) v y) (f : first ≡ step_place n N t v) where
            test : is_outside c N (usual n) v y ≡ not (eqb b first)
            test = old_test there (omega (arith, met_then, q, g)) ∙ ap (λ k. not (eqb k (step_place n N t v))) (sym d) ∙ ap (λ k. not (eqb b k)) (sym f)

            pub pass_path : b ≡ first → tally ≡ tally_at (cell n N t) N (usual n) v (y + 1)
            pass_path e = kept (on_path_lem c N (usual n) (spot v y) (test ∙ rw (eq-eqb b first e))) met_kept

            pub pass_outside : y % 2 ≡ 0 → (b ≡ first → ⊥) → ◌≡◌ {A = Tally} (record { met = tally.met; edges = tally.edges + 1 }) (tally_at (cell n N t) N (usual n) v (y + 1))
            pass_outside l e =
                tally_eq met_kept (ap (λ k. k + 1) edges_then ∙ edges_more one) ∙ next_is
              where
                one : outside_in c N (usual n) (spot v y ∷ []) ≡ spot v y ∷ []
                one =
                    outside_first c N (usual n) (spot v y) [] (rw (eq-eqb (y % 2) 0 l, ne_eqb (c v y) absent there)) (test ∙ rw (ne_eqb b first e))
                    ∙ ap (λ l. spot v y ∷ l) (outside_none c N (usual n))

  -- ── Rows ──

  pub tally_zero : (v : ℕ) → tally_at (cell n N t) N (usual n) v 0 ≡ tally_before (cell n N t) N (usual n) v
  unfolding tally_at tally_before earlier
  tally_zero v = tally_eq (ap greatest_met (append-nil (rows_before c (usual n) v))) (ap (λ l. length (outside_in c N (usual n) l)) (append-nil (scan v (usual n))))

  pub tally_whole : (v : ℕ) → tally_at (cell n N t) N (usual n) v (2 * n) ≡ tally_before (cell n N t) N (usual n) (v + 1)
  tally_whole v = row ∙ tally_zero (suc v) ∙ ap (tally_before c N (usual n)) (sym (add-one v))
    where
      row : tally_at c N (usual n) v (2 * n) ≡ tally_at c N (usual n) (suc v) 0
      row = unfold tally_at in sym (tally_eq (ap greatest_met (before_row c n v)) (ap (λ l. length (outside_in c N (usual n) l)) (spots_row n v)))

  pub tally_start : ◌≡◌ {A = Tally} (record { met = 0; edges = 0 }) (tally_before (cell n N t) N (usual n) 0)
  unfolding tally_before rows_before scan greatest_met
  tally_start = tally_eq refl (sym (ap length (outside_none c N (usual n))))

  pub tally_few : (v y : ℕ) → (tally_at (cell n N t) N (usual n) v y).edges ≤ v * (2 * n) + y
  unfolding tally_at
  tally_few v y = omega (arith, outside_few c N (usual n) (spots_to (usual n) v y), spots_few n v y)

  -- so no count wraps
  pub tally_small : {v y : ℕ} {tally : Tally} → tally ≡ tally_at (cell n N t) N (usual n) v y → v < N → y < 2 * n → tally.edges + 1 ≤ 54526004
  tally_small {v} {y} {tally} e hv hy =
      omega (
        arith,
        ap (λ (a : Tally). a.edges) e,
        tally_few v y,
        row_below N (2 * n) v hv,
        product_small S.lent,
      )
