-- What `parse` and `query_at` give together: the list and the queries of the input.
--   parse_list    : the bytes in front are the list
--   parse_queries : the walk from the queries' place gives the queries
--   list_fits, query_fits : the list and a query stand inside the bytes
-- Assumes nothing.
use mathlib.Core.Path.{◌≡◌, refl, sym, ◌∙◌, ap}
use mathlib.Core.Bool.{true, false, true≢false}
use mathlib.Core.List.{List, [], ◌∷◌, map}
use Prim.Native.Nat.{ℕ, zero, suc, ◌+◌, ◌-◌, ◌<◌, ◌≤◌}
use native.Mathlib.Omega.{arith}
use lib.ListN.{length, take, drop, length-drop, length-append}
use lib.Seq.{take-append_seam, take-take, drop-drop}
use Rattle.std.proofs.Common.{Ok, Err, Some}
use Rattle.theory.specs.Letters.{word_length}
use Rattle.theory.proofs.TextLaws.{word_length_le}
use Rattle.theory.proofs.WordLaws.{by_test}
use Rattle.inputs.specs.Inputs.{
  lines_of,
  first_line,
  later_lines,
  without_end,
  plus_mark,
  query_mark,
  is_marked,
  is_bad_input,
  list_of,
  queries_of,
  alphabet_of,
}
use Rattle.inputs.specs.Parsed.{
  run_length,
  run_text,
  fronted_by,
  queries_place,
  accepted_as,
  parsed_of,
  ParsedInto,
  query_as,
  query_at,
  walked_on,
  walked_from,
}
use Rattle.inputs.specs.declared.Accepted.{Accepted}
use Rattle.inputs.specs.declared.InputError.TheVariants.{Bad}
use Rattle.inputs.specs.declared.Query.{Query}
use Rattle.inputs.proofs.LineLaws.{Line, line_of, line_size, first_size, later_lines_lem}
use Rattle.inputs.proofs.MarkLaws.{after_run, lines_run, bad_plus, list_run_lem, two_marks}
use Rattle.inputs.proofs.GatherTurn.{front_drop, line_text}
use Rattle.inputs.proofs.QueryLaws.{without_length}

-- ── Lines as queries ──

abbrev texts : List (List ℕ) → List (List ℕ)
texts ls = map (λ l. without_end (drop 1 l)) ls

-- where nothing is bad after a '?', each line is a query
asked_texts : (ls : List (List ℕ)) → is_bad_input true ls ≡ false → queries_of ls ≡ texts ls
unfolding is_bad_input queries_of
asked_texts [] e = refl
asked_texts (l ∷ ls) e =
    by_test (is_marked plus_mark l) (λ t. absurd (true≢false (rw t at e)))
    (λ t. by_test (is_marked query_mark l) (λ u. rw u (ap (λ x. without_end (drop 1 l) ∷ x) (asked_texts ls (rw (t, u) at e)))) (λ u. absurd (true≢false (rw (t, u) at e))))

-- a '+' line is no query
plus_texts : (ls : List (List ℕ)) → queries_of ls ≡ queries_of (after_run plus_mark ls)
unfolding queries_of after_run
plus_texts [] = refl
plus_texts (l ∷ ls) = by_test (is_marked plus_mark l) (λ t. rw (other t, t) (plus_texts ls)) (λ t. rw t)
  where
    other : is_marked plus_mark l ≡ true → is_marked query_mark l ≡ false
    other t = by_test (is_marked query_mark l) (λ u. absurd (true≢false (sym t ∙ two_marks l u))) (λ u. u)

-- ── The walk ──

-- the text of the query that stands at a place
query_text : (input : List ℕ) (at : ℕ) (l : List ℕ) (ls : List (List ℕ)) → Line (drop at input) l ls
    → take (length (without_end (drop 1 l))) (drop (at + 1) input) ≡ without_end (drop 1 l)
unfolding without_end
query_text input at l ls k =
    ap (λ j. take j (drop (at + 1) input)) (without_length (drop 1 l))
    ∙ sym (take-take (word_length (drop 1 l)) (length l - 1) (drop (at + 1) input) (omega (arith, word_length_le (drop 1 l), length-drop 1 l)))
    ∙ ap (take (word_length (drop 1 l))) (ap (take (length l - 1)) (sym (drop-drop 1 at input)) ∙ line_text l (drop at input) k.some k.starts)

query_lines_lem : (input : List ℕ) (at : ℕ) (ls : List (List ℕ)) → lines_of (drop at input) ≡ ls → query_at input at ≡ query_as at ls
unfolding query_at
query_lines_lem input at ls e = ap (query_as at) e

walk_texts : (d : ℕ) (ls : List (List ℕ)) (input : List ℕ) (at : ℕ) → lines_of (drop at input) ≡ ls → length ls ≤ d → walked_from d input at ≡ texts ls
unfolding walked_from
walk_texts zero [] input at e h = refl
walk_texts zero (l ∷ ls) input at e h = absurd (omega arith)
walk_texts (suc d) [] input at e h = ap (walked_on input (walked_from d input)) (query_lines_lem input at [] e)
walk_texts (suc d) (l ∷ ls) input at e h =
    ap (walked_on input (walked_from d input)) (query_lines_lem input at (l ∷ ls) e)
    ∙ ap (λ x. x ∷ walked_from d input (at + length l)) (query_text input at l ls k)
    ∙ ap (λ x. without_end (drop 1 l) ∷ x) (walk_texts d ls input (at + length l) (sym (ap lines_of (drop-drop (length l) at input)) ∙ k.rest) (omega arith))
  where
    k : Line (drop at input) l ls
    k = line_of (drop at input) l ls e

-- a line has a byte at least
lines_few : (ls : List (List ℕ)) (text : List ℕ) → lines_of text ≡ ls → length ls ≤ length text
lines_few [] text e = omega arith
lines_few (l ∷ ls) text e =
    let k = line_of text l ls e in
    omega (arith, lines_few ls (drop (length l) text) k.rest, length-drop (length l) text, k.some, k.inside)

-- ── What an accepted input says ──

text_few : (ls : List (List ℕ)) → length (run_text ls) ≤ run_length plus_mark ls
unfolding run_text run_length
text_few [] = omega arith
text_few (l ∷ ls) =
    by_test (is_marked plus_mark l) (λ t. rw t (omega (arith, length-append (drop 1 l) (run_text ls), length-drop 1 l, text_few ls))) (λ t. rw t (omega arith))

accepted_parts : (a : Accepted) (m k p : ℕ) → Ok a ≡ accepted_as m k p → (a.list ≡ k) × (a.queries ≡ p)
accepted_parts a zero k p e = absurd (let z : ◌≡◌ {A = ℕ} 0 1 = cc in omega arith)
accepted_parts a (suc m) k p e =
    let same : a ≡ record { n = suc m; list = k; queries = p } = cc in
    (ap (λ (x : Accepted). x.list) same, ap (λ (x : Accepted). x.queries) same)

module _ (input : List ℕ) (a : Accepted) (after : List ℕ) (h : ParsedInto input (Ok a) after) where
  good : is_bad_input false (later_lines input) ≡ false
  unfolding parsed_of
  good = by_test (is_bad_input false (later_lines input)) (λ t. absurd (bad (h.answer ∙ (rw t)))) (λ t. t)
    where
      bad : Ok a ≡ Err Bad → ⊥
      bad e = let z : ◌≡◌ {A = ℕ} 0 1 = cc in omega arith

  parts : (a.list ≡ length (list_of (later_lines input))) × (a.queries ≡ queries_place input)
  unfolding parsed_of
  parts = accepted_parts a (alphabet_of 26 (without_end (first_line input))) _ _ (h.answer ∙ (rw good))

  -- the bytes in front are the list
  pub parse_list : take a.list after ≡ list_of (later_lines input)
  unfolding fronted_by
  parse_list = ap (take a.list) h.bytes ∙ ap (λ k. take k (fronted_by (list_of (later_lines input)) input)) parts.0 ∙ take-append_seam (list_of (later_lines input)) (drop (length (list_of (later_lines input))) input)

  -- the list does not reach the queries
  below : length (list_of (later_lines input)) ≤ a.queries
  unfolding queries_place
  below = omega (arith, ap length (list_run_lem (later_lines input) good), text_few (later_lines input), parts.1)

  lines_behind : lines_of (drop a.queries after) ≡ after_run plus_mark (later_lines input)
  unfolding queries_place
  lines_behind =
      ap (λ x. lines_of (drop a.queries x)) h.bytes
      ∙ ap lines_of (front_drop (list_of (later_lines input)) input a.queries below)
      ∙ ap (λ k. lines_of (drop k input)) (parts.1 ∙ ap (λ k. k + run_length plus_mark (later_lines input)) (first_size input))
      ∙ sym (ap lines_of (drop-drop (run_length plus_mark (later_lines input)) (line_size input) input))
      ∙ (lines_run plus_mark (later_lines input) (drop (line_size input) input) (sym (later_lines_lem input))).1

  -- the walk from their place on gives the queries
  pub parse_queries : walked_from (length after) after a.queries ≡ queries_of (later_lines input)
  parse_queries =
      walk_texts (length after) (after_run plus_mark (later_lines input)) after a.queries lines_behind
      (omega (arith, lines_few (after_run plus_mark (later_lines input)) (drop a.queries after) lines_behind, length-drop a.queries after))
      ∙ sym (asked_texts (after_run plus_mark (later_lines input)) (sym (bad_plus (later_lines input)) ∙ good))
      ∙ sym (plus_texts (later_lines input))

-- ── Places inside the input ──

-- the list stands inside the bytes
pub list_fits : (input : List ℕ) (a : Accepted) (after : List ℕ) → ParsedInto input (Ok a) after → a.list ≤ length after
unfolding fronted_by
list_fits input a after h =
    omega (arith, (parts input a after h).0, ap length h.bytes, length-append (list_of (later_lines input)) (drop (length (list_of (later_lines input))) input))

-- a query that is found stands inside the bytes, and the next line starts behind the place that was asked
pub query_fits : (input : List ℕ) (at : ℕ) (q : Query) → Some q ≡ query_at input at → (q.start + q.size ≤ length input) × (at < q.next) × (q.next ≤ length input)
unfolding query_at
query_fits input at q e = go (lines_of (drop at input)) refl e
  where
    go : (ls : List (List ℕ)) → lines_of (drop at input) ≡ ls → Some q ≡ query_as at ls → (q.start + q.size ≤ length input) × (at < q.next) × (q.next ≤ length input)
    go [] l e = absurd (let z : ◌≡◌ {A = ℕ} 0 1 = cc in omega arith)
    go (l ∷ ls) l' e =
        let k = line_of (drop at input) l ls l' in
        let same : q ≡ record { start = at + 1; size = length (without_end (drop 1 l)); next = at + length l } = cc in
        let a : q.start ≡ at + 1 = ap (λ (x : Query). x.start) same in
        let b : q.size ≡ length (without_end (drop 1 l)) = ap (λ (x : Query). x.size) same in
        let d : q.next ≡ at + length l = ap (λ (x : Query). x.next) same in (
          omega (arith, a, b, without_length (drop 1 l), word_length_le (drop 1 l), length-drop 1 l, k.some, k.inside, length-drop at input),
          omega (arith, d, k.some),
          omega (arith, d, k.inside, k.some, length-drop at input),
        )
