-- The parts of `read_table` put together (`specs/TableFiles`).
--   cells_count       : a whole run has as many cells as numbers
--   fill_sound, fill_faulty : what the walk says of the written table, in the words of `by_fault`
--   cells_whole, cells_filled : what `read_cells` says of a run that was read through; read_missing, read_points : the answers of `read_table`
-- Assumes nothing.
use mathlib.Core.Path.{◌≡◌, refl, sym, ◌∙◌, ap, fun_ext}
use mathlib.Core.Bool.{Bool, true, false, cond, true≢false}
use mathlib.Core.Option.{Option, none, some}
use mathlib.Core.List.{List, ◌++◌}
use Prim.Native.Nat.{ℕ, zero, suc, ◌+◌, ◌*◌, ◌≤◌}
use lib.Dec.{ltb}
use lib.ListN.{length, take, drop, replicate, length-map}
use lib.Seq.{drop-append_seam, take-append_seam, take-length}
use borrow.Author.Tests.{le-ltb}
use Rattle.std.specs.declared.result.Result.{Result}
use Rattle.std.specs.declared.result.Result.TheVariants.{Ok, Err}
use Rattle.theory.specs.Letters.{usual}
use Rattle.theory.specs.Files.{number_limit}
use Rattle.theory.specs.Tables.{absent, cell}
use Rattle.theory.specs.Canonical.{faulty_cell}
use Rattle.theory.specs.TableRefusals.{is_lent, at_cell, cell_refusal}
use Rattle.theory.proofs.OneTable.{cells_of_rows}
use Rattle.cells.specs.Filled.{filled}
use Rattle.refusals.specs.declared.Refusal.{Refusal}
use Rattle.tables.specs.Walks.{walked_as}
use Rattle.tables.specs.declared.Walked.{Walked}
use Rattle.tables.proofs.WalkLaws.{walk_ok, walk_err}
use Rattle.runs.specs.Runs.{Run, broken, whole, on_run, broken_at, run_on, number_at, behind, numbers_at, skipped_as}
use Rattle.numbers.specs.declared.Number.{Number}
use Rattle.numbers.specs.Reads.{Stands, ReadAt}
use Rattle.runs.proofs.Standing.{standing_complete, behind_inside, none_standing}
use Rattle.table_files.specs.TableFiles.{TableIn, refused, by_fault, cells_in, points_in, table_in, read_for, table_for, TableOutcome}
use Rattle.table_files.specs.Parts.{Whole, values_of, cells_of, run_of}

-- ── How many cells ──

-- as many numbers as were asked for: the first, and those behind it
on_length : (x k : ℕ) (r : Run) → (Whole r → length (values_of r) ≡ k) → Whole (on_run x r) → length (values_of (on_run x r)) ≡ suc k
on_length x k (broken r) h w = absurd w
on_length x k (whole xs q) h w = ap suc (h tt)

below_length : (x k p : ℕ) (b : Bool) (r : Run) → (Whole r → length (values_of r) ≡ k) → Whole (cond b (on_run x r) (broken_at 4 p))
    → length (values_of (cond b (on_run x r) (broken_at 4 p))) ≡ suc k
below_length x k p true r h w = on_length x k r h w
below_length x k p false r h w = absurd w

next_length : (limit p k : ℕ) (o : Option ℕ) (rest : ℕ → Run) → ((q : ℕ) → Whole (rest q) → length (values_of (rest q)) ≡ k)
    → Whole (run_on limit p o rest) → length (values_of (run_on limit p o rest)) ≡ suc k
next_length limit p k none rest h w = absurd w
next_length limit p k (some x) rest h w = below_length x k p (ltb x limit) (rest (behind p x)) (h (behind p x)) w

run_length_lem : (limit : ℕ) (file : List ℕ) (p k : ℕ) → Whole (numbers_at limit file p k) → length (values_of (numbers_at limit file p k)) ≡ k
unfolding numbers_at
run_length_lem limit file p zero w = refl
run_length_lem limit file p (suc k) w =
    next_length limit p k (number_at file p) (λ q. numbers_at limit file q k) (λ q v. run_length_lem limit file q k v) w

pub cells_count : (file : List ℕ) (p k : ℕ) → Whole (run_of file p k) → length (cells_of (run_of file p k)) ≡ k
unfolding cells_of run_of
cells_count file p k w = length-map (values_of (run_of file p k)) _ ∙ run_length_lem (number_limit + 1) file p k w

-- ── The walk of what was written ──

-- what stands behind the rows counts for nothing
fault_of_rows : (n N : ℕ) (xs rest : List ℕ) → length xs ≡ N * (2 * n)
    → faulty_cell N (usual n) (cell n N (xs ++ rest)) ≡ faulty_cell N (usual n) (cell n N xs)
fault_of_rows n N xs rest e =
    ap (faulty_cell N (usual n)) (fun_ext (λ v. fun_ext (λ y. cells_of_rows n (xs ++ rest) xs refl rows v y)))
  where
    rows : take (N * (2 * n)) (xs ++ rest) ≡ take (N * (2 * n)) xs
    rows =
        ap (λ k. take k (xs ++ rest)) (sym e) ∙ take-append_seam xs rest
        ∙ sym (take-length xs) ∙ ap (λ k. take k xs) e

module _ (n N : ℕ) (xs table cells : List ℕ) (e : length xs ≡ N * (2 * n)) (f : cells ≡ xs ++ drop (N * (2 * n)) table) where
  fault_here : faulty_cell N (usual n) (cell n N cells) ≡ faulty_cell N (usual n) (cell n N xs)
  fault_here = ap (λ l. faulty_cell N (usual n) (cell n N l)) f ∙ fault_of_rows n N xs (drop (N * (2 * n)) table) e

  refusal_here : cell_refusal n N cells ≡ cell_refusal n N xs
  unfolding cell_refusal
  refusal_here = ap at_cell fault_here

  pub fill_sound : {w : Walked} → Ok w ≡ walked_as n N cells
      → (Ok N ≡ read_for (by_fault N xs (cell_refusal n N xs))) × (cells ≡ table_for table (by_fault N xs (cell_refusal n N xs)))
  fill_sound u =
      let o = sym (walk_ok n N cells u).0 ∙ refusal_here in (
        ap (λ o. read_for (by_fault N xs o)) o,
        f ∙ ap (λ k. xs ++ drop k table) (sym e) ∙ ap (λ o. table_for table (by_fault N xs o)) o,
      )

  pub fill_faulty : {r : Refusal} {after : List ℕ} → Err r ≡ walked_as n N cells → after ≡ filled (N * (2 * n)) absent cells
      → (Err r ≡ read_for (by_fault N xs (cell_refusal n N xs))) × (after ≡ table_for table (by_fault N xs (cell_refusal n N xs)))
  unfolding filled
  fill_faulty u h =
      let q = walk_err n N cells u in
      let o = sym q.1 ∙ refusal_here in (
        ap Err q.2 ∙ ap (λ o. read_for (by_fault N xs o)) o,
        h
            ∙ ap (λ l. replicate (N * (2 * n)) absent ++ l) (ap (drop (N * (2 * n))) f ∙ ap (λ k. drop k (xs ++ drop (N * (2 * n)) table)) (sym e) ∙ drop-append_seam xs (drop (N * (2 * n)) table))
            ∙ ap (λ k. replicate k absent ++ drop k table) (sym e)
            ∙ ap (λ o. table_for table (by_fault N xs o)) o,
      )

-- the same, for the count that the code holds
module _ (n N : ℕ) (file : List ℕ) (at : ℕ) (table : List ℕ) (whole_run : Whole (run_of file at (N * (2 * n)))) {count : ℕ} (k : count ≡ N * (2 * n))
    {cells : List ℕ} (f : cells ≡ cells_of (run_of file at count) ++ drop count table) where
  abbrev pub read : TableIn
  read = by_fault N (cells_of (run_of file at (N * (2 * n)))) (cell_refusal n N (cells_of (run_of file at (N * (2 * n)))))

  put : cells ≡ cells_of (run_of file at (N * (2 * n))) ++ drop (N * (2 * n)) table
  put = f ∙ ap (λ j. cells_of (run_of file at j) ++ drop j table) k

  pub put_sound : {w : Walked} → Ok w ≡ walked_as n N cells → (Ok N ≡ read_for read) × (cells ≡ table_for table read)
  put_sound u = fill_sound n N (cells_of (run_of file at (N * (2 * n)))) table cells (cells_count file at (N * (2 * n)) whole_run) put u

  pub put_faulty : {r : Refusal} {after : List ℕ} → Err r ≡ walked_as n N cells → after ≡ filled count absent cells
      → (Err r ≡ read_for read) × (after ≡ table_for table read)
  put_faulty u h =
      fill_faulty n N (cells_of (run_of file at (N * (2 * n)))) table cells (cells_count file at (N * (2 * n)) whole_run) put u (h ∙ ap (λ j. filled j absent cells) k)

-- ── The answers of `read_cells` ──

-- a run that was read through is whole, and what stands behind it decides
skipped_behind : (n N : ℕ) (file : List ℕ) (run : Run) (q : ℕ) → Ok q ≡ skipped_as run
    → Whole run
    × (cells_in n N file run
    ≡ cond (ltb q (length file)) (refused (record { number = 12; place = q })) (by_fault N (cells_of run) (cell_refusal n N (cells_of run))))
unfolding cells_of
skipped_behind n N file (broken r) q e = absurd (true≢false cc)
skipped_behind n N file (whole xs p) q e =
    let f : p ≡ q = cc in
    (tt, ap (λ q. cond (ltb q (length file)) (refused (record { number = 12; place = q })) (by_fault N (cells_of (whole xs p)) (cell_refusal n N (cells_of (whole xs p))))) f)

-- the same run, for the count that the code holds
pub skip_count : (file : List ℕ) (at : ℕ) {count k : ℕ} → count ≡ k → skipped_as (numbers_at 4294967296 file at count) ≡ skipped_as (run_of file at k)
unfolding run_of
skip_count file at e = ap (λ j. skipped_as (numbers_at 4294967296 file at j)) e

module _ (n N : ℕ) (file table : List ℕ) (from at : ℕ) (here : at ≡ behind from N) where
  -- what stands there
  abbrev pub met : TableIn
  met = points_in n (length table) file from (some N)

  abbrev pub run : Run
  run = run_of file at (N * (2 * n))

  -- by whether bytes stand behind the run, which ends at q
  abbrev behind_in : Bool → ℕ → TableIn
  behind_in b q = cond b (refused (record { number = 12; place = q })) (by_fault N (cells_of run) (cell_refusal n N (cells_of run)))

  module _ (lent : is_lent n N (length table) ≡ true) where
    -- where the table has its cells the run decides
    met_run : met ≡ cells_in n N file run
    unfolding run_of
    met_run =
        ap (λ b. cond b (cells_in n N file (numbers_at (number_limit + 1) file (behind from N) (N * (2 * n)))) (refused (record { number = 6; place = 0 }))) lent
        ∙ ap (λ p. cells_in n N file (numbers_at (number_limit + 1) file p (N * (2 * n)))) (sym here)

    pub cells_filled : {q : ℕ} → Ok q ≡ skipped_as run → length file ≤ q → by_fault N (cells_of run) (cell_refusal n N (cells_of run)) ≡ met
    cells_filled {q} e l = sym (met_run ∙ (skipped_behind n N file run q e).1 ∙ ap (λ b. behind_in b q) (le-ltb q (length file) l))

  pub cells_whole : {q : ℕ} → Ok q ≡ skipped_as run → Whole run
  cells_whole {q} e = (skipped_behind n N file run q e).0

-- ── The answers of `read_table` ──

module _ (n : ℕ) (file table : List ℕ) (at : ℕ) where
  pub read_missing : {r : Refusal} → ReadAt file at (Err r) → TableOutcome n file at table (Err r) table
  unfolding table_in
  read_missing a =
      let m = ap (points_in n (length table) file at) (none_standing file at a.1) in
      record { answer = ap Err a.0 ∙ sym (ap read_for m); cells = sym (ap (table_for table) m) }

  module _ (number : Number) (s : Stands file at number) where
    pub read_behind : at ≤ length file → (number.next ≤ length file) × (number.next ≡ behind at number.value)
    unfolding behind
    read_behind l = (rw s.1 (behind_inside file at number.value l s.0).1, s.1)

    pub read_points : {r : Result ℕ Refusal} {after : List ℕ}
        → (r ≡ read_for (points_in n (length table) file at (some number.value))) × (after ≡ table_for table (points_in n (length table) file at (some number.value)))
        → TableOutcome n file at table r after
    unfolding table_in
    read_points h =
        let m = sym (ap (points_in n (length table) file at) (standing_complete file at number.value s.0)) in
        record { answer = h.0 ∙ ap read_for m; cells = h.1 ∙ ap (table_for table) m }
