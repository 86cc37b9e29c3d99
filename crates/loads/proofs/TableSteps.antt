-- The steps of loading a table (`Steps`): its numbers, the end, its faults.
--   cells_broken, cells_whole : the numbers of the cells
--   cells_over, cells_ended   : bytes behind them
--   fault_first, fault_none   : the lowest faulty cell
--   table_space               : no text is asked for
-- Assumes nothing.
use mathlib.Core.Path.{◌≡◌, refl, sym, ◌∙◌, ap, subst}
use mathlib.Core.Logic.{by_cases, inl, inr}
use mathlib.Core.Option.{none, some}
use mathlib.Core.List.{List, [], ◌∷◌, map}
use Prim.Native.Nat.{ℕ, ◌+◌, ◌*◌, ◌≤◌, ◌<◌}
use native.Mathlib.Decide.{dec_lt}
use native.Mathlib.Omega.{arith}
use lib.ListN.{length}
use Rattle.theory.specs.Files.{number_limit, word_numbers, Cause12}
use Rattle.theory.specs.Refusals.{Refusal as FirstCause, Only, First, turn}
use Rattle.theory.specs.TableRefusals.{Cause8, cell_refusal}
use Rattle.theory.specs.Tables.{absent}
use Rattle.theory.proofs.TableRefusalLaws.{Verdict, cells_decide}
use Rattle.runs.specs.Runs.{broken, whole, number_at}
use Rattle.runs.proofs.Standing.{standing_sound}
use Rattle.table_files.specs.TableFiles.{number_cell}
use Rattle.loads.specs.Causes.{FileCause, cell_missing, cells_end, cell_faulty}
use Rattle.loads.proofs.StandLaws.{Stand, end_from, starts_of_stand, end_is, missing_of, stand_one}
use Rattle.loads.proofs.Events.{Upon, RunEvent, RunVerdict, run_tail, Ended, run_ended, Tail}
use Rattle.loads.proofs.FirstCauses.{
  table_run,
  AtNumbers,
  no_cell,
  in_words,
  AtEnd,
  cells_more,
  words_more,
  AtFault,
  bad_cell,
  long_text,
  AtSpace,
  short_text,
  clear_next,
}
use Rattle.loads.proofs.Steps.{third, Three, from_three, to_three, Cleared, Leasts}

module _ (file : List ℕ) (cells space n N : ℕ) (h : Three file 1 n N) where
  -- a list's file is another
  no_list : {A : Type 0} (m k : ℕ) (xs : List ℕ) → Stand file 0 (2 ∷ m ∷ k ∷ xs) → A
  no_list m k xs s = absurd (omega (arith, (from_three h 2 m k xs s).0))

  abbrev pub count : ℕ
  count = N * (2 * n)

  -- numbers of cells that some cause speaks of are those here
  cell_event : (m M : ℕ) (xs : List ℕ) → length xs < M * (2 * m) → Stand file 0 (table_run m M xs) → (z : ℕ) → z ≡ end_from 0 (table_run m M xs)
      → number_at file z ≡ none → RunEvent (number_limit + 1) file (third 1 n N) count 10 z
  cell_event m M xs b s z f g =
      let t = from_three h 1 m M xs s in
      let i : z ≡ end_from (third 1 n N) xs = f ∙ ap (λ m. end_from (third 1 m M) xs) t.1 ∙ ap (λ M. end_from (third 1 n M) xs) t.2 in
      subst (λ z. RunEvent (number_limit + 1) file (third 1 n N) count 10 z) (sym i)
      (run_tail (number_limit + 1) file xs count (third 1 n N) 10
      (subst (λ M. length xs < M * (2 * n)) t.2 (subst (λ m. length xs < M * (2 * m)) t.1 b)) t.3
      (inl (subst (λ z. number_at file z ≡ none) i g, refl)))

  module _ (c3 : Cleared file cells space 3) where
    pub cells_broken : (r : FirstCause) → RunVerdict (number_limit + 1) file (third 1 n N) count (broken r) → Leasts file cells space 3 r.number r.place
    cells_broken r v = record { applies = go e.tail; clear = c3; upon = upon }
      where
        e : Ended (number_limit + 1) file (third 1 n N) count r.number r.place
        e = run_ended (number_limit + 1) file count (third 1 n N) r.number r.place v.0

        go : Tail (number_limit + 1) file r.number r.place → FileCause file cells space 3 r.number r.place
        go (inl (f, g)) =
            subst (λ k. FileCause file cells space 3 k r.place) (sym g)
            (cell_missing n N r.place e.before e.few (missing_of (table_run n N e.before) (to_three h e.before e.stand) e.place f))
        go (inr (y, f, b, g)) = absurd (omega (arith, b, (standing_sound file r.place y f).fits))

        upon : (l q : ℕ) → AtNumbers file cells space l q → Upon r.number r.place l q
        upon l q (no_cell m M z xs b s f g) = v.1 10 z (cell_event m M xs b s z f g)
        upon l q (in_words m k a z s w) = no_list m k [] s

    pub cells_whole : (xs : List ℕ) (z : ℕ) → RunVerdict (number_limit + 1) file (third 1 n N) count (whole xs z) → Cleared file cells space 4
    cells_whole xs z v = clear_next file cells space 3 c3 gone
      where
        gone : (l q : ℕ) → AtNumbers file cells space l q → ⊥
        gone l q (no_cell m M y us b s f g) = v.0 10 y (cell_event m M us b s y f g)
        gone l q (in_words m k a y s w) = no_list m k [] s

  module _ (xs : List ℕ) (z : ℕ) (st : Stand file (third 1 n N) xs) (is : z ≡ end_from (third 1 n N) xs) (many : length xs ≡ count) where
    -- cells that some cause speaks of are those here
    same_cells_lem : (m M : ℕ) (us : List ℕ) → length us ≡ M * (2 * m) → Stand file 0 (table_run m M us) → (m ≡ n) × (M ≡ N) × (us ≡ xs)
    same_cells_lem m M us b s =
        let t = from_three h 1 m M us s in (
          t.1,
          t.2,
          stand_one file (third 1 n N) us xs
              (b ∙ ap (λ m. M * (2 * m)) t.1 ∙ ap (λ M. M * (2 * n)) t.2 ∙ sym many) t.3 st,
        )

    same_end : (m M : ℕ) (us : List ℕ) → length us ≡ M * (2 * m) → Stand file 0 (table_run m M us) → end_from 0 (table_run m M us) ≡ z
    same_end m M us b s =
        let t = same_cells_lem m M us b s in
        ap (λ m. end_from (third 1 m M) us) t.0 ∙ ap (λ M. end_from (third 1 n M) us) t.1 ∙ ap (end_from (third 1 n N)) t.2 ∙ sym is

    module _ (c4 : Cleared file cells space 4) where
      pub cells_over : z < length file → Leasts file cells space 4 12 z
      cells_over b =
          record {
            applies = cells_end n N z xs many (starts_of_stand (table_run n N xs) (to_three h xs st))
                (subst (λ e. Cause12 file e z) (end_is (table_run n N xs)) (is, subst (λ z. z < length file) is b));
            clear = c4;
            upon = upon;
          }
        where
          upon : (l q : ℕ) → AtEnd file cells space l q → Upon 12 z l q
          upon l q (cells_more m M y us b s f) = inr (sym (f.0 ∙ same_end m M us b s), refl)
          upon l q (words_more m y ws s f) = no_list m (length ws) (word_numbers ws) s

      pub cells_ended : length file ≤ z → Cleared file cells space 5
      cells_ended b = clear_next file cells space 4 c4 gone
        where
          gone : (l q : ℕ) → AtEnd file cells space l q → ⊥
          gone l q (cells_more m M y us d s f) = omega (arith, f.1, b, same_end m M us d s)
          gone l q (words_more m y ws s f) = no_list m (length ws) (word_numbers ws) s

    abbrev pub table : List ℕ
    table = map number_cell xs

    same_fault : (m M : ℕ) (us : List ℕ) (q : ℕ) → length us ≡ M * (2 * m) → Stand file 0 (table_run m M us) → Cause8 m M (map number_cell us) q → Cause8 n N table q
    same_fault m M us q b s c =
        let t = same_cells_lem m M us b s in
        subst (λ us. Cause8 n N (map number_cell us) q) t.2
        (subst (λ M. Cause8 n M (map number_cell us) q) t.1 (subst (λ m. Cause8 m M (map number_cell us) q) t.0 c))

    module _ (small : N ≤ absent) (c5 : Cleared file cells space 5) where
      pub fault_first : (r : FirstCause) → cell_refusal n N table ≡ some r → Leasts file cells space 5 r.number r.place
      fault_first r e =
          record {
            applies = subst (λ k. FileCause file cells space 5 k r.place) (sym f.applies.0)
                (cell_faulty n N r.place xs many (starts_of_stand (table_run n N xs) (to_three h xs st)) f.applies.1);
            clear = c5;
            upon = upon;
          }
        where
          f : First (Only 8 (Cause8 n N table)) r.number r.place
          f = subst (Verdict (Only 8 (Cause8 n N table))) e (cells_decide n N table small).verdict

          placed : (q : ℕ) → Cause8 n N table q → Upon r.number r.place 8 q
          placed q c =
              by_cases (dec_lt r.place q) (λ b. inl b)
              (λ b. by_cases (dec_lt q r.place) (λ d. absurd (f.foremost 8 q (inr (sym (ap turn f.applies.0), d)) (refl, c)))
              (λ d. inr (omega arith, f.applies.0)))

          upon : (l q : ℕ) → AtFault file cells space l q → Upon r.number r.place l q
          upon l q (bad_cell m M y us b s c) = placed y (same_fault m M us y b s c)
          upon l q (long_text m y ws s c) = no_list m (length ws) (word_numbers ws) s

      pub fault_none : cell_refusal n N table ≡ none → Cleared file cells space 6
      fault_none e = clear_next file cells space 5 c5 gone
        where
          gone : (l q : ℕ) → AtFault file cells space l q → ⊥
          gone l q (bad_cell m M y us b s c) =
              subst (Verdict (Only 8 (Cause8 n N table))) e (cells_decide n N table small).verdict 8 y (refl, same_fault m M us y b s c)
          gone l q (long_text m y ws s c) = no_list m (length ws) (word_numbers ws) s

  pub table_space : Cleared file cells space 6 → Cleared file cells space 7
  table_space c6 = clear_next file cells space 6 c6 gone
    where
      gone : (l q : ℕ) → AtSpace file cells space l q → ⊥
      gone l q (short_text m y ws s c) = no_list m (length ws) (word_numbers ws) s
