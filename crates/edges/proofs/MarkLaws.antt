-- Marks in the work cells, the rows they stand for, and the number of an edge (`specs/Edges`, `specs/Steps`).
--   row_small : the rows of marks, in numbers
--   row_first, row_grows, mark_near : the first run starts at row 0, rows of marks grow, and the last mark up to a row is found by dividing
--   found_first, found_later, found_mark : the tally that a mark's cells hold
--   Marking <-> the first j marks are left, and the tally stands at the row of mark j; marking_first, marking_rows, marking_turn : so it is at first, and after a mark
--   number_is : the number of an edge outside the paths is one more than how many stand before it
-- Assumes nothing.
use mathlib.Core.Path.{◌≡◌, refl, sym, ◌∙◌, ap}
use mathlib.Core.Logic.{by_cases}
use mathlib.Core.Bool.{true}
use mathlib.Core.List.{List, [], ◌∷◌, ◌++◌, append_assoc, append-nil}
use Prim.Native.Nat.{ℕ, zero, suc, ◌+◌, ◌-◌, ◌*◌, ◌/◌, ◌≤◌, ◌<◌}
use native.Mathlib.Nat.{suc-mul, mul-le-mul_right, mul-le-mul, div-le_self, div-mul-le_self, lt-mul-div-succ}
use native.Mathlib.Decide.{ℕ_discrete, dec_lt}
use native.Mathlib.Numerals.{add-one}
use native.Mathlib.Omega.{arith}
use lib.ListN.{length, get_or, set, take, drop, length-append, get_or-append}
use lib.Seq.{drop-cons, set_at, get_or_at, get_or-take, get_or-append-add, split_at}
use Rattle.theory.specs.Letters.{usual}
use Rattle.theory.specs.Tables.{Cells, cell}
use Rattle.theory.specs.Basis.{Spot, spots_of, scan, is_edge, edges_of, outside_edges, number_in}
use Rattle.theory.proofs.PathLaws.{spot}
use Rattle.theory.proofs.EdgeLaws.{number_at_lem, distinct_outside}
use Rattle.tables.proofs.LentLaws.{IsSound, sound_setting}
use Rattle.tables.proofs.ScanLaws.{spots_to, get_or_spots, spots_there}
use Rattle.edges.specs.declared.Tally.{Tally}
use Rattle.edges.specs.Edges.{is_outside, outside_in, tally_before, mark_row, marks_of}
use Rattle.edges.specs.Steps.{tally_at, run_of, left, found}
use Rattle.edges.proofs.TallyLaws.{tally_eq, outside_append, outside_first, tally_start}

-- ── Rows of marks ──

module _ (N k : ℕ) where
  run_small : N / (k + 1) ≤ N
  run_small = div-le_self N (k + 1)

  -- the runs reach behind the last row
  runs_reach : N < (k + 1) * run_of N k
  runs_reach = lt-mul-div-succ N {b = k + 1} (omega arith)

  pub row_small : (j : ℕ) {run : ℕ} → run ≡ run_of N k → N ≤ 1048577 → j ≤ 1048576 → j * run ≤ 1099514773504
  row_small j {run} q h l =
      let b : run ≤ 1048578 = omega (arith, q, run_small) in omega (arith, mul-le-mul l b)

  pub row_first : 0 ≡ mark_row N k 0
  row_first = omega arith

  pub row_grows : (j : ℕ) → (mark_row N k j ≤ mark_row N k (j + 1)) × (mark_row N k (j + 1) ≤ N)
  row_grows j =
      let e : (j + 1) * run_of N k ≡ j * run_of N k + run_of N k = ap (λ i. i * run_of N k) (add-one j) ∙ suc-mul j (run_of N k) in
      (omega (arith, e), omega arith)

  -- the last mark up to row v
  pub mark_near : {v run : ℕ} → run ≡ run_of N k → v < N → (v / run ≤ k) × (mark_row N k (v / run) ≤ v)
  mark_near {v} {run} q h =
      let d = div-mul-le_self v run in
      let e = ap (λ r. v / run * r) q in (
        by_cases (dec_lt k (v / run))
            (λ b. let l : k + 1 ≤ v / run = omega arith in absurd (omega (arith, runs_reach, mul-le-mul_right (run_of N k) l, d, e))) (λ b. omega arith),
        omega (arith, d, e),
      )

-- ── A mark's cells ──

pub found_first : (work : List ℕ) (j : ℕ) → j ≡ 0 → ◌≡◌ {A = Tally} (record { met = 0; edges = 0 }) (found work j)
unfolding found
found_first work j e = sym (ap (found work) e)

pub found_later : (work : List ℕ) (j : ℕ) → (j ≡ 0 → ⊥)
    → ◌≡◌ {A = Tally} (record { met = get_or work (2 * j - 2) 0; edges = get_or work (2 * j - 1) 0 }) (found work j)
unfolding found
found_later work zero h = absurd (h refl)
found_later work (suc j) h =
    tally_eq (ap (λ i. get_or work i 0) (let e : 2 * suc j - 2 ≡ 2 * j = omega arith in e)) (ap (λ i. get_or work i 0) (let e : 2 * suc j - 1 ≡ 2 * j + 1 = omega arith in e))

module _ (c : Cells) (N : ℕ) (ys : List ℕ) (k : ℕ) where
  -- the tally before the row of a mark
  abbrev at : ℕ → Tally
  at j = tally_before c N ys (mark_row N k j)

  length_marks : (m : ℕ) → length (marks_of c N ys k m) ≡ 2 * m
  unfolding marks_of
  length_marks zero = omega arith
  length_marks (suc m) =
      length-append (marks_of c N ys k m) ((at (suc m)).met ∷ (at (suc m)).edges ∷ []) ∙ omega (arith, length_marks m)

  marks_hold : (m j : ℕ) → j < m
      → (get_or (marks_of c N ys k m) (2 * j) 0 ≡ (at (suc j)).met) × (get_or (marks_of c N ys k m) (2 * j + 1) 0 ≡ (at (suc j)).edges)
  unfolding marks_of
  marks_hold zero j h = absurd (omega arith)
  marks_hold (suc m) j h =
      by_cases (ℕ_discrete j m)
      (λ e. (
        ap (λ i. get_or (front ++ last) i 0) (let p : 2 * j ≡ length front + 0 = omega (arith, length_marks m) in p) ∙ get_or-append-add front last 0 0 ∙ ap (λ i. (at (suc i)).met) (sym e),
        ap (λ i. get_or (front ++ last) i 0) (let p : 2 * j + 1 ≡ length front + 1 = omega (arith, length_marks m) in p) ∙ get_or-append-add front last 1 0 ∙ ap (λ i. (at (suc i)).edges) (sym e),
      ))
      (λ e. let r = marks_hold m j (omega arith) in (
        get_or-append front last 0 (2 * j) (omega (arith, length_marks m)) ∙ r.0,
        get_or-append front last 0 (2 * j + 1) (omega (arith, length_marks m)) ∙ r.1,
      ))
    where
      front : List ℕ
      front = marks_of c N ys k m

      last : List ℕ
      last = (at (suc m)).met ∷ (at (suc m)).edges ∷ []

  -- one mark more is left behind the first j
  left_more : (old : List ℕ) (j : ℕ) → 2 * j + 2 ≤ length old
      → left (marks_of c N ys k j ++ drop (2 * j) old) j (at (suc j)) ≡ marks_of c N ys k (suc j) ++ drop (2 * suc j) old
  unfolding marks_of
  left_more old j h =
      ap (λ l. set (set (A ++ l) (2 * j) a) (2 * j + 1) b) parts
      ∙ ap (λ l. set l (2 * j + 1) b) (set_at A p (q ∷ R) a (2 * j) (length_marks j) ∙ sym (append_assoc A (a ∷ []) (q ∷ R)))
      ∙ set_at (A ++ (a ∷ [])) q R b (2 * j + 1) (length-append A (a ∷ []) ∙ omega (arith, length_marks j))
      ∙ append_assoc A (a ∷ []) (b ∷ R)
      ∙ sym (append_assoc A (a ∷ b ∷ []) R)
    where
      A : List ℕ
      A = marks_of c N ys k j

      a : ℕ
      a = (at (suc j)).met

      b : ℕ
      b = (at (suc j)).edges

      p : ℕ
      p = get_or old (2 * j) 0

      q : ℕ
      q = get_or old (suc (2 * j)) 0

      R : List ℕ
      R = drop (2 * suc j) old

      parts : drop (2 * j) old ≡ p ∷ q ∷ R
      parts =
          drop-cons old (2 * j) 0 (omega arith)
          ∙ ap (λ l. p ∷ l) (drop-cons old (suc (2 * j)) 0 (omega arith) ∙ ap (λ i. q ∷ drop i old) (let e : suc (suc (2 * j)) ≡ 2 * suc j = omega arith in e))

module _ {n N : ℕ} {t : List ℕ} (S : IsSound n N t) where
  abbrev c : Cells
  c = cell n N t

  -- ── Marks found ──

  pub found_mark : (work : List ℕ) (k j : ℕ) → take (2 * k) work ≡ marks_of (cell n N t) N (usual n) k k → j ≤ k
      → found work j ≡ tally_before (cell n N t) N (usual n) (mark_row N k j)
  unfolding found
  found_mark work k zero e h = tally_start S ∙ ap (tally_before c N (usual n)) (row_first N k)
  found_mark work k (suc j) e h =
      let r = marks_hold c N (usual n) k k j (omega arith) in
      tally_eq (there (2 * j) (omega arith) ∙ r.0) (there (2 * j + 1) (omega arith) ∙ r.1)
    where
      there : (i : ℕ) → i < 2 * k → get_or work i 0 ≡ get_or (marks_of c N (usual n) k k) i 0
      there i l = sym (get_or-take (2 * k) work i 0 l) ∙ ap (λ l. get_or l i 0) e

  -- ── The number of an edge ──

  -- the edges outside the paths are those of all spots
  outside_all : outside_edges c N (usual n) ≡ outside_in c N (usual n) (scan N (usual n))
  unfolding outside_edges edges_of outside_in is_outside
  outside_all = refl

  -- a row of the scan, and what stands behind it
  scan_parts : (ys : List ℕ) (M v : ℕ) → v < M → (rest : List Spot) × (scan M ys ≡ scan v ys ++ (spots_of ys v ++ rest))
  unfolding scan
  scan_parts ys zero v h = absurd (omega arith)
  scan_parts ys (suc M) v h =
      by_cases (ℕ_discrete v M)
      (λ e. ([], ap (λ u. scan u ys ++ spots_of ys u) (sym e) ∙ ap (λ l. scan v ys ++ l) (sym (append-nil (spots_of ys v)))))
      (λ e. let r = scan_parts ys M v (omega arith) in (
        r.0 ++ spots_of ys M,
        ap (λ l. l ++ spots_of ys M) r.1
            ∙ append_assoc (scan v ys) (spots_of ys v ++ r.0) (spots_of ys M)
            ∙ ap (λ l. scan v ys ++ l) (append_assoc (spots_of ys v) r.0 (spots_of ys M)),
      ))

  module _ (v y : ℕ) (hv : v < N) (hy : y < 2 * n) where
    -- the scan parted at a spot
    spot_parts : (rest : List Spot) × (scan N (usual n) ≡ spots_to (usual n) v y ++ (spot v y ∷ rest))
    spot_parts =
        let r = scan_parts (usual n) N v hv in
        let row = spots_of (usual n) v in (
          drop (suc y) row ++ r.0,
          r.1
              ∙ ap (λ l. scan v (usual n) ++ (l ++ r.0)) (split_at row y (spot v 0) (spots_there n v y hy) ∙ ap (λ s. take y row ++ s ∷ drop (suc y) row) (get_or_spots n v y hy))
              ∙ ap (λ l. scan v (usual n) ++ l) (append_assoc (take y row) (spot v y ∷ drop (suc y) row) r.0)
              ∙ sym (append_assoc (scan v (usual n)) (take y row) (spot v y ∷ (drop (suc y) row ++ r.0))),
        )

    -- the edges outside the paths, parted there
    outside_parts : is_edge c (spot v y) ≡ true → is_outside c N (usual n) v y ≡ true
        → (rest : List Spot) × (outside_edges c N (usual n) ≡ outside_in c N (usual n) (spots_to (usual n) v y) ++ (spot v y ∷ rest))
    outside_parts e o =
        let r = spot_parts in (
          outside_in c N (usual n) r.0,
          outside_all ∙ ap (outside_in c N (usual n)) r.1
              ∙ outside_append c N (usual n) (spots_to (usual n) v y) (spot v y ∷ r.0)
              ∙ ap (λ l. outside_in c N (usual n) (spots_to (usual n) v y) ++ l) (outside_first c N (usual n) (spot v y) r.0 e o),
        )

    pub number_is : {tally : Tally} → is_edge (cell n N t) (spot v y) ≡ true → is_outside (cell n N t) N (usual n) v y ≡ true
        → tally ≡ tally_at (cell n N t) N (usual n) v y → tally.edges + 1 ≡ number_in (outside_edges (cell n N t) N (usual n)) 1 v y
    number_is {tally} e o q =
        let r = outside_parts e o in
        let A = outside_in c N (usual n) (spots_to (usual n) v y) in
        let l = ap length r.1 ∙ length-append A (spot v y ∷ r.0) in
        let g = ap (λ l. get_or l (length A) (spot 0 0)) r.1 ∙ get_or_at A (spot v y) r.0 (spot 0 0) (length A) refl in
        let p = number_at_lem (outside_edges c N (usual n)) 1 (length A) v y (distinct_outside (sound_setting S)) (omega (arith, l)) g in
        omega (arith, p, ap (λ (a : Tally). a.edges) q, edges_is)
      where
        edges_is : (tally_at c N (usual n) v y).edges ≡ length (outside_in c N (usual n) (spots_to (usual n) v y))
        edges_is = unfold tally_at in refl

-- ── Marking ──

pub record Marking (n N : ℕ) (t : List ℕ) (k : ℕ) (old : List ℕ) (j : ℕ) (work : List ℕ) (row : ℕ) (tally : Tally) : Type 0 where
  pub cells : work ≡ marks_of (cell n N t) N (usual n) k j ++ drop (2 * j) old
  pub row_is : row ≡ mark_row N k j
  pub tally_is : tally ≡ tally_before (cell n N t) N (usual n) row

module _ {n N : ℕ} {t : List ℕ} (S : IsSound n N t) {k : ℕ} {old : List ℕ} where
  pub marking_first : Marking n N t k old 0 old 0 (record { met = 0; edges = 0 })
  unfolding marks_of
  marking_first = record { cells = refl; row_is = row_first N k; tally_is = tally_start S }

  module _ {j : ℕ} {work : List ℕ} {row : ℕ} {tally : Tally} (M : Marking n N t k old j work row tally) {to : ℕ} (r : to ≡ mark_row N k (j + 1)) where
    pub marking_rows : (row ≤ to) × (to ≤ N)
    marking_rows = let g = row_grows N k j in (omega (arith, r, M.row_is, g.0), omega (arith, r, g.1))

    pub marking_turn : {after : List ℕ} {sum : Tally} → j < k → 2 * k ≤ length old → sum ≡ tally_before (cell n N t) N (usual n) to → after ≡ left work j sum
        → Marking n N t k old (j + 1) after to sum
    marking_turn {after} {sum} h room e q =
        record {
          cells = q ∙ ap (λ l. left l j sum) M.cells ∙ ap (left (marks_of (cell n N t) N (usual n) k j ++ drop (2 * j) old) j) there
              ∙ left_more (cell n N t) N (usual n) k old j (omega arith)
              ∙ ap (λ i. marks_of (cell n N t) N (usual n) k i ++ drop (2 * i) old) (sym (add-one j));
          row_is = r;
          tally_is = e;
        }
      where
        there : sum ≡ tally_before (cell n N t) N (usual n) (mark_row N k (suc j))
        there = e ∙ ap (tally_before (cell n N t) N (usual n)) (r ∙ ap (mark_row N k) (add-one j))
