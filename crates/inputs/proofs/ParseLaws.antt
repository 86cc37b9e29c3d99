-- What `parse` answers, from the places that it computes: the end of the first line, of the '+' lines and of the '?' lines.
--   parse_bad, parse_refused, parse_accepted : the three answers
-- Assumes nothing.
use mathlib.Core.Path.{◌≡◌, refl, sym, ◌∙◌, ap}
use mathlib.Core.Bool.{true, false}
use mathlib.Core.List.{List}
use Prim.Native.Nat.{ℕ, ◌+◌, ◌<◌, ◌≤◌}
use native.Mathlib.Omega.{arith}
use lib.ListN.{length, drop, length-drop}
use lib.Seq.{drop-drop}
use Rattle.std.proofs.Common.{Ok, Err}
use Rattle.lists.specs.Counts.{next_start}
use Rattle.refusals.specs.declared.Refusal.{Refusal}
use Rattle.inputs.specs.Inputs.{
  lines_of,
  first_line,
  later_lines,
  without_end,
  plus_mark,
  query_mark,
  is_bad_input,
  list_of,
  alphabet_of,
}
use Rattle.inputs.specs.Parsed.{run_length, run_text, fronted_by, queries_place, first_number_of, accepted_as, parsed_of, ParsedInto}
use Rattle.inputs.specs.declared.InputError.TheVariants.{Bad, Refused}
use Rattle.inputs.proofs.LineLaws.{size_inside, first_size, later_lines_lem, next_first}
use Rattle.inputs.proofs.MarkLaws.{after_run, lines_run, bad_plus, bad_asked, good_asked, list_run_lem}
use Rattle.inputs.proofs.NumberLaws.{answer_number, answer_refused}

module _ (input : List ℕ) {first : ℕ} where
  pub first_inside : first ≡ next_start input 0 → first ≤ length input
  first_inside f = omega (arith, f, next_first input, size_inside input)

  later : first ≡ next_start input 0 → lines_of (drop first input) ≡ later_lines input
  later f = ap (λ k. lines_of (drop k input)) (f ∙ next_first input) ∙ sym (later_lines_lem input)

  pub queries_inside : {queries : ℕ} → first ≡ next_start input 0 → queries ≡ first + run_length plus_mark (lines_of (drop first input)) → queries ≤ length input
  queries_inside {queries} f q =
      omega (arith, q, (lines_run plus_mark (lines_of (drop first input)) (drop first input) refl).0, length-drop first input, first_inside f)

  place : {queries : ℕ} → first ≡ next_start input 0 → queries ≡ first + run_length plus_mark (lines_of (drop first input)) → queries ≡ queries_place input
  unfolding queries_place
  place {queries} f q = omega (arith, q, ap (run_length plus_mark) (later f), f, next_first input, first_size input)

  -- the lines at the queries' place are those behind the run of '+' lines
  behind : {queries : ℕ} → first ≡ next_start input 0 → queries ≡ first + run_length plus_mark (lines_of (drop first input)) → lines_of (drop queries input) ≡ after_run plus_mark (later_lines input)
  behind {queries} f q =
      ap (λ k. lines_of (drop k input)) q
      ∙ sym (ap lines_of (drop-drop (run_length plus_mark (lines_of (drop first input))) first input))
      ∙ (lines_run plus_mark (lines_of (drop first input)) (drop first input) refl).1
      ∙ ap (after_run plus_mark) (later f)

  module _ {queries asked : ℕ} (f : first ≡ next_start input 0) (q : queries ≡ first + run_length plus_mark (lines_of (drop first input))) (a : asked ≡ queries + run_length query_mark (lines_of (drop queries input))) where
    is_bad : asked < length input → is_bad_input false (later_lines input) ≡ true
    is_bad h =
        bad_plus (later_lines input)
        ∙ sym (ap (is_bad_input true) (behind f q))
        ∙ bad_asked (lines_of (drop queries input)) (drop queries input) refl (omega (arith, a, length-drop queries input))

    is_good_lem : length input ≤ asked → is_bad_input false (later_lines input) ≡ false
    is_good_lem h =
        bad_plus (later_lines input)
        ∙ sym (ap (is_bad_input true) (behind f q))
        ∙ good_asked (lines_of (drop queries input)) (drop queries input) refl (omega (arith, a, length-drop queries input))

    pub parse_bad : asked < length input → ParsedInto input (Err Bad) input
    parse_bad h = record { answer = unfold parsed_of in rw (is_bad h); bytes = refl }

    pub parse_refused : {r : Refusal} → length input ≤ asked → Err r ≡ first_number_of input → ParsedInto input (Err (Refused r)) input
    unfolding first_number_of parsed_of
    parse_refused {r} h e = record { answer = rw (is_good_lem h) (answer_refused _ _ _ e); bytes = refl }

    pub parse_accepted : {n list : ℕ} {after : List ℕ} → length input ≤ asked → Ok n ≡ first_number_of input
        → list ≡ length (run_text (lines_of (drop first input))) → after ≡ fronted_by (run_text (lines_of (drop first input))) input
        → ParsedInto input (Ok (record { n = n; list = list; queries = queries })) after
    parse_accepted {n} {list} {after} h e l t =
        record {
          answer =
              answer_number (alphabet_of 26 (without_end (first_line input))) list queries (unfold first_number_of in e)
              ∙ ap (λ k. accepted_as (alphabet_of 26 (without_end (first_line input))) k queries) (l ∙ ap length text)
              ∙ ap (λ k. accepted_as (alphabet_of 26 (without_end (first_line input))) (length (list_of (later_lines input))) k) (place f q)
              ∙ sym (unfold parsed_of in (rw (is_good_lem h)));
          bytes = t ∙ ap (λ x. fronted_by x input) text;
        }
      where
        text : run_text (lines_of (drop first input)) ≡ list_of (later_lines input)
        text = ap run_text (later f) ∙ sym (list_run_lem (later_lines input) (is_good_lem h))
