-- The stages of `member` on plain values: what is refused, in order, and the answer where nothing is.
--   query_word_lem    : the word of a query that passes the scan is the first word of its text, which takes all of it
--   reading_home      : a reading ends at the base exactly if the word leads there
--   fine              : what holds where nothing is refused
-- Assumes nothing.
use mathlib.Core.Path.{◌≡◌, refl, sym, ◌∙◌, ap}
use mathlib.Core.Bool.{Bool, true, false, not, true≢false}
use mathlib.Core.Logic.{by_cases}
use mathlib.Core.Option.{Option, none}
use mathlib.Core.List.{List, [], ◌∷◌, ◌++◌, map, append_assoc}
use Prim.Native.Nat.{ℕ, suc, ◌-◌, ◌≤◌, ◌<◌}
use native.Mathlib.Decide.{ℕ_discrete}
use native.Mathlib.Omega.{arith}
use lib.Dec.{ltb}
use lib.ListN.{length, get_or, take, drop, replicate}
use lib.Seq.{take_at, take-length}
use borrow.Author.Tests.{eq-eqb, ne_eqb, ltb-false, not-false}
use Rattle.std.specs.Prelude.{⊤}
use Rattle.std.specs.declared.result.Result.{Result}
use Rattle.std.specs.declared.result.Result.TheVariants.{Ok, Err}
use Rattle.theory.specs.Words.{reduced}
use Rattle.theory.specs.Letters.{letter_bytes, place_in, letter_of, is_letter, line_end, usual, word_length, first_word}
use Rattle.theory.specs.Refusals.{Refusal as FirstCause, is_alphabet, or_else, refused_if, text_refusal}
use Rattle.theory.specs.Tables.{absent, Cells, cell, end_of, reading_from, is_at, is_accepted}
use Rattle.theory.specs.Canonical.{faulty_cell}
use Rattle.theory.specs.TableRefusals.{is_lent, at_cell, cell_refusal, member_refusal}
use Rattle.theory.proofs.RefusalLaws.{refusal_none}
use Rattle.theory.proofs.TextLaws.{length-first_word}
use Rattle.theory.proofs.StartLaws.{reduced_shorter}
use Rattle.theory.proofs.CanonicalLaws.{table_none_canonical}
use Rattle.theory.proofs.TableRefusalLaws.{else_none, unrefused, no_cell, text_alphabet}
use Rattle.cells.specs.Filled.{filled}
use Rattle.refusals.specs.Given.{unless, unless_short}
use Rattle.refusals.specs.declared.Cause.TheVariants.{Work}
use Rattle.refusals.specs.declared.Refusal.{Refusal}
use Rattle.refusals.proofs.UnlessLaws.{unless_ok, unless_err, ok_unless, short_unless, cause_numbered}
use Rattle.refusals.proofs.StageLaws.{err_any, err_first, ok_next}
use Rattle.words.specs.Reduction.{reduced_cells, ReducedInto}
use Rattle.words.specs.declared.Reduced.{Reduced}
use Rattle.words.proofs.ReduceTurn.{cells_kept}
use Rattle.tables.specs.Lent.{IsLent, lent_refusal}
use Rattle.tables.proofs.LentLaws.{tested_lent, IsSound}
use Rattle.members.specs.Readings.{read_as, reading_as}
use Rattle.members.specs.Members.{query_word, answer_as, cells_for, cells_after, MemberOutcome}
use Rattle.members.specs.Stages.{is_at_base, table_refusal}
use Rattle.members.specs.declared.Stop.{Stop}

-- ── The word of a query ──

line_end_no_letter : is_letter line_end ≡ false
unfolding is_letter letter_of place_in letter_bytes
line_end_no_letter = refl

-- a query that passes the scan has no line end
no_line_end : (n : ℕ) (query : List ℕ) → text_refusal n false query ≡ none → (p : ℕ) → p < length query → get_or query p 0 ≡ line_end → ⊥
no_line_end n query e p h z =
    refusal_none n false query e 3 p (h, ap is_letter z ∙ line_end_no_letter, λ t _. true≢false (sym t))

whole : (text : List ℕ) → ((p : ℕ) → p < length text → get_or text p 0 ≡ line_end → ⊥) → word_length text ≡ length text
unfolding word_length
whole [] h = refl
whole (b ∷ text) h = rw (ne_eqb b line_end (h 0 (omega arith))) (ap suc (whole text (λ p l. h (suc p) (omega arith))))

module _ (n : ℕ) (query : List ℕ) (e : text_refusal n false query ≡ none) where
  pub query_length : word_length query ≡ length query
  query_length = whole query (no_line_end n query e)

  pub query_word_lem : first_word query ≡ query_word query
  unfolding first_word
  query_word_lem = ap (map letter_of) (ap (λ k. take k query) query_length ∙ take-length query)

-- the cells of a reduction start with it
cells_start : (w work : List ℕ) → take (length (reduced w)) (reduced_cells w work) ≡ reduced w
unfolding reduced_cells
cells_start w work = starts (reduced w) (replicate (length w - length (reduced w)) 0) (drop (length w) work)
  where
    starts : (l k d : List ℕ) → take (length l) (l ++ k ++ d) ≡ l
    starts l k d = simp append_assoc (take_at l (k ++ d) (length l) refl)

-- ── The answer of a reading ──

pub reading_home : (c : Cells) (k v : ℕ) (w : List ℕ) → is_at_base (read_as (reading_from c k v w)) ≡ is_at 0 (end_of c v w)
unfolding reading_from end_of
reading_home c k v [] = refl
reading_home c k v (y ∷ w) =
    by_cases (ℕ_discrete (c v y) absent) (λ e. rw (eq-eqb (c v y) absent e))
    (λ e. rw (ne_eqb (c v y) absent e) (reading_home c (suc k) (c v y) w))

-- what is said of a reading of the reduced word is what is said of the word
pub answer_accepted : (n N : ℕ) (t q : List ℕ) → is_at_base (reading_as n N t (reduced q)) ≡ is_accepted (cell n N t) q
unfolding reading_as is_accepted
answer_accepted n N t q = reading_home (cell n N t) 0 0 (reduced q)

-- ── The table, behind the query: its size, the work, the cells ──

module _ (n N : ℕ) (t : List ℕ) (needed room : ℕ) (lettered : is_alphabet n ≡ true) where
  abbrev by_work : Option FirstCause
  by_work = refused_if (ltb room needed) 7 needed

  -- what `check_table` says
  abbrev said : Result ⊤ Refusal
  said = unless (table_refusal n N t needed room) (tt {0})

  by_stages : said ≡ unless (or_else (lent_refusal n N t) (or_else by_work (cell_refusal n N t))) (tt {0})
  unfolding table_refusal
  by_stages = rw lettered

  pub table_short : {r : Refusal} → Err r ≡ unless (lent_refusal n N t) (tt {0}) → Err r ≡ said
  table_short e = rw by_stages (err_first (lent_refusal n N t) (tt {0}) (tt {0}) (or_else by_work (cell_refusal n N t)) e)

  -- the table is lent: work and cells decide
  module _ {u : ⊤} (l : Ok u ≡ unless (lent_refusal n N t) (tt {0})) where
    then_work : {x : Result ⊤ Refusal} → x ≡ unless (or_else by_work (cell_refusal n N t)) (tt {0}) → x ≡ said
    then_work e = rw by_stages (ok_next (lent_refusal n N t) (tt {0}) (tt {0}) (or_else by_work (cell_refusal n N t)) l e)

    -- the work's test, as a stage
    as_stage : unless_short Work needed room ≡ unless by_work (tt {0})
    as_stage = short_unless Work needed room (cause_numbered Work)

    pub table_work : {r : Refusal} → Err r ≡ unless_short Work needed room → Err r ≡ said
    table_work e = then_work (err_first by_work (tt {0}) (tt {0}) (cell_refusal n N t) (e ∙ as_stage))

    -- so is the work: the cells decide
    pub table_cells : {x : Result ⊤ Refusal} → Ok tt ≡ unless_short Work needed room → x ≡ unless (cell_refusal n N t) (tt {0}) → x ≡ said
    table_cells w e = then_work (ok_next by_work (tt {0}) (tt {0}) (cell_refusal n N t) (w ∙ as_stage) e)

-- ── The query, then its table ──

module _ (n N : ℕ) (t query : List ℕ) (room : ℕ) where
  pub query_text : {r : Refusal} → Err r ≡ unless (text_refusal n false query) (tt {0}) → Err r ≡ unless (member_refusal n N t query room) (tt {0})
  unfolding member_refusal table_refusal
  query_text e = err_first (text_refusal n false query) (tt {0}) (tt {0}) (table_refusal n N t (length query) room) e

  pub query_table : {u : ⊤} {x : Result ⊤ Refusal} → Ok u ≡ unless (text_refusal n false query) (tt {0})
      → x ≡ unless (table_refusal n N t (length query) room) (tt {0}) → x ≡ unless (member_refusal n N t query room) (tt {0})
  unfolding member_refusal table_refusal
  query_table e d = ok_next (text_refusal n false query) (tt {0}) (tt {0}) (table_refusal n N t (length query) room) e d

pub alphabet_of_lem : (n : ℕ) (query : List ℕ) → text_refusal n false query ≡ none → is_alphabet n ≡ true
alphabet_of_lem n query e = text_alphabet n false query e

pub query_alphabet : (n : ℕ) (query : List ℕ) {u : ⊤} → Ok u ≡ unless (text_refusal n false query) (tt {0}) → is_alphabet n ≡ true
query_alphabet n query e = alphabet_of_lem n query (unless_ok (text_refusal n false query) (tt {0}) e).0

-- ── Nothing is refused ──

pub record Fine (n N : ℕ) (t query : List ℕ) (room : ℕ) : Type 0 where
  pub text : text_refusal n false query ≡ none
  pub enough : length query ≤ room
  pub sound : IsSound n N t

pub fine : (n N : ℕ) (t query : List ℕ) (room : ℕ) → member_refusal n N t query room ≡ none → Fine n N t query room
unfolding member_refusal cell_refusal
fine n N t query room e =
    record {
      text = a.0;
      enough = ltb-false room (length query) (unrefused (ltb room (length query)) 7 (length query) d.0);
      sound = record {
        lent = table;
        canonical = table_none_canonical n N t table.lettered (no_cell (faulty_cell N (usual n) (cell n N t)) d.1);
      };
    }
  where
    a : (text_refusal n false query ≡ none) × (or_else (refused_if (not (is_lent n N (length t))) 6 0) (or_else (refused_if (ltb room (length query)) 7 (length query)) (at_cell (faulty_cell N (usual n) (cell n N t)))) ≡ none)
    a = else_none _ _ e

    b : (refused_if (not (is_lent n N (length t))) 6 0 ≡ none) × (or_else (refused_if (ltb room (length query)) 7 (length query)) (at_cell (faulty_cell N (usual n) (cell n N t))) ≡ none)
    b = else_none _ _ a.1

    d : (refused_if (ltb room (length query)) 7 (length query) ≡ none) × (at_cell (faulty_cell N (usual n) (cell n N t)) ≡ none)
    d = else_none _ _ b.1

    table : IsLent n N t
    table =
        tested_lent (alphabet_of_lem n query a.0)
        (not-false _ (unrefused (not (is_lent n N (length t))) 6 0 b.0))

module _ (n N : ℕ) (t query work : List ℕ) where
  -- the work has room for the query's word, and holds what is left of it
  pub reduce_room : member_refusal n N t query (length work) ≡ none → word_length query ≤ length work
  reduce_room e = let f = fine n N t query (length work) e in omega (arith, query_length n query f.text, f.enough)

  pub left_room : {r : Reduced} {after : List ℕ} → member_refusal n N t query (length work) ≡ none → ReducedInto query work r after
      → length after ≡ length work → (r.left ≤ length after) × (length query ≤ length after)
  left_room {r} {after} e into same =
      let f = fine n N t query (length work) e in (
        omega (arith, into.left, reduced_shorter (first_word query), length-first_word query, query_length n query f.text, f.enough, same),
        omega (arith, f.enough, same),
      )

  module _ (none-refused : member_refusal n N t query (length work) ≡ none) {r : Reduced} {after : List ℕ} (into : ReducedInto query work r after) where
    -- the letters left are the reduced query
    pub letters_left : take r.left after ≡ reduced (query_word query)
    letters_left =
        ap (take r.left) into.cells
        ∙ ap (λ k. take k (reduced_cells (first_word query) work)) into.left
        ∙ cells_start (first_word query) work
        ∙ ap reduced (query_word_lem n query (fine n N t query (length work) none-refused).text)

    -- the cells behind the needed ones are as they were
    pub cells_behind : drop (length query) after ≡ drop (length query) work
    cells_behind =
        ap (drop (length query)) into.cells ∙ cells_kept (first_word query) work (length query) (omega (arith, length_first))
      where
        length_first : length (first_word query) ≡ length query
        length_first =
            length-first_word query ∙ query_length n query (fine n N t query (length work) none-refused).text

    -- the query is reduced, read, and the cells are cleared
    pub decided : {cells : List ℕ} {reading : Result ℕ Stop} {inside : Bool} → reading ≡ reading_as n N t (take r.left after)
        → cells ≡ filled (length query) 0 after → inside ≡ is_at_base reading → MemberOutcome n N t query work (Ok inside) cells
    unfolding answer_as cells_after filled
    decided read cleared said =
        record {
          answer =
              ap Ok (said ∙ ap is_at_base (read ∙ ap (reading_as n N t) letters_left) ∙ answer_accepted n N t (query_word query))
              ∙ ok_unless (member_refusal n N t query (length work)) (is_accepted (cell n N t) (query_word query)) none-refused;
          cells =
              cleared
              ∙ ap (λ l. replicate (length query) 0 ++ l) cells_behind
              ∙ sym (ap (cells_for query work) none-refused);
        }

  -- the first cause is the answer
  pub member_refused : {r : Refusal} → Err r ≡ unless (member_refusal n N t query (length work)) (tt {0}) → MemberOutcome n N t query work (Err r) work
  unfolding answer_as cells_after
  member_refused e =
      record {
        answer = err_any (member_refusal n N t query (length work)) (tt {0}) (is_accepted (cell n N t) (query_word query)) e;
        cells = sym (ap (cells_for query work) (unless_err (member_refusal n N t query (length work)) (tt {0}) e).1);
      }
