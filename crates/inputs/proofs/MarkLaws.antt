-- Laws of marks and of runs of lines (`specs/Inputs`, `specs/Parsed`).
--   run_turn, run_stop, run_over : the bytes of a run, a line at a time
--   after_run m ls                == the lines behind the run
--   lines_run                    : they stand behind its bytes
--   bad-run, good-run            : the input is bad unless a run of '?' lines reaches from the run of '+' lines to the end
--   list_run_lem                     : the list of an input that is not bad is the text of its run of '+' lines
-- Assumes nothing.
use mathlib.Core.Path.{◌≡◌, refl, sym, ◌∙◌, ap}
use mathlib.Core.Bool.{true, false, cond, true≢false}
use mathlib.Core.List.{List, [], ◌∷◌, ◌++◌}
use Prim.Native.Nat.{ℕ, ◌+◌, ◌<◌, ◌≤◌}
use native.Mathlib.Omega.{arith}
use lib.Dec.{eqb}
use lib.ListN.{length, get_or, drop, length-drop}
use lib.Seq.{get_or-take, get_or-drop, drop-drop}
use borrow.Author.Tests.{eq-eqb, ne_eqb, eqb-true}
use Rattle.theory.proofs.WordLaws.{by_test}
use Rattle.lists.specs.Counts.{next_start}
use Rattle.inputs.specs.Inputs.{lines_of, plus_mark, query_mark, is_marked, is_bad_input, list_of}
use Rattle.inputs.specs.Parsed.{run_length, run_text}
use Rattle.inputs.proofs.LineLaws.{Line, line_of, no_line, LineAt, some_line, lines_end}

-- ── The mark of a line ──

marked_some : (m : ℕ) (l : List ℕ) → 0 < length l → is_marked m l ≡ eqb (get_or l 0 0) m
unfolding is_marked
marked_some m [] h = absurd (omega arith)
marked_some m (b ∷ bs) h = refl

-- it is the byte at which the line starts
pub marked_at : (m : ℕ) (text : List ℕ) (at : ℕ) (l : List ℕ) (ls : List (List ℕ)) → LineAt text at l ls → is_marked m l ≡ eqb (get_or text at 0) m
marked_at m text at l ls k =
    marked_some m l k.line.some
    ∙ ap (λ b. eqb b m)
    (ap (λ x. get_or x 0 0) (sym k.line.starts) ∙ get_or-take (length l) (drop at text) 0 0 k.line.some ∙ get_or-drop at text 0 0 ∙ ap (λ i. get_or text i 0) (omega arith))

-- ── Runs ──

module _ (m : ℕ) where
  run_marked : (l : List ℕ) (ls : List (List ℕ)) → is_marked m l ≡ true → run_length m (l ∷ ls) ≡ length l + run_length m ls
  unfolding run_length
  run_marked l ls e = rw e

  run_other : (l : List ℕ) (ls : List (List ℕ)) → is_marked m l ≡ false → run_length m (l ∷ ls) ≡ 0
  unfolding run_length
  run_other l ls e = rw e

  run_none : run_length m [] ≡ 0
  unfolding run_length
  run_none = refl

  module _ (text : List ℕ) (at : ℕ) where
    -- a line with the mark belongs to the run
    pub run_turn : (next : ℕ) → at < length text → get_or text at 0 ≡ m → next ≡ next_start text at
        → (at < next) × (next ≤ length text) × (at + run_length m (lines_of (drop at text)) ≡ next + run_length m (lines_of (drop next text)))
    run_turn next h e n =
        let s = some_line text at h in
        let k = s.here in
        let is : next ≡ at + length s.line = n ∙ sym k.next in (
          omega (arith, is, k.line.some),
          omega (arith, is, k.inside),
          omega (
            arith,
            is,
            ap (run_length m) k.is ∙ run_marked s.line s.lines (marked_at m text at s.line s.lines k ∙ eq-eqb (get_or text at 0) m e),
            ap (λ i. run_length m (lines_of (drop i text))) is ∙ ap (run_length m) k.rest,
          ),
        )

    -- another line ends it
    pub run_stop : at < length text → (get_or text at 0 ≡ m → ⊥) → run_length m (lines_of (drop at text)) ≡ 0
    run_stop h e =
        let s = some_line text at h in
        ap (run_length m) s.here.is ∙ run_other s.line s.lines (marked_at m text at s.line s.lines s.here ∙ ne_eqb (get_or text at 0) m e)

    -- so does the end of the text
    pub run_over : length text ≤ at → run_length m (lines_of (drop at text)) ≡ 0
    run_over h = ap (run_length m) (lines_end text at h) ∙ run_none

  unfoldable pub after_run : List (List ℕ) → List (List ℕ)
  after_run [] = []
  after_run (l ∷ ls) = cond (is_marked m l) (after_run ls) (l ∷ ls)

  -- the lines behind a run stand behind its bytes
  pub lines_run : (ls : List (List ℕ)) (text : List ℕ) → lines_of text ≡ ls
      → (run_length m ls ≤ length text) × (lines_of (drop (run_length m ls) text) ≡ after_run ls)
  unfolding after_run run_length
  lines_run [] text e = (omega arith, e)
  lines_run (l ∷ ls) text e = by_test (is_marked m l) (λ t. rw t (more (lines_run ls (drop (length l) text) k.rest))) (λ t. rw t (omega arith, e))
    where
      k : Line text l ls
      k = line_of text l ls e

      more : (run_length m ls ≤ length (drop (length l) text)) × (lines_of (drop (run_length m ls) (drop (length l) text)) ≡ after_run ls)
          → (length l + run_length m ls ≤ length text) × (lines_of (drop (length l + run_length m ls) text) ≡ after_run ls)
      more r = (omega (arith, r.0, length-drop (length l) text, k.inside), sym (ap lines_of (drop-drop (run_length m ls) (length l) text)) ∙ r.1)

-- ── Bad input ──

-- '+' lines before any '?' are passed
pub bad_plus : (ls : List (List ℕ)) → is_bad_input false ls ≡ is_bad_input true (after_run plus_mark ls)
unfolding is_bad_input after_run
bad_plus [] = refl
bad_plus (l ∷ ls) = by_test (is_marked plus_mark l) (λ t. rw t (bad_plus ls)) (λ t. rw (t, t))

pub two_marks : (l : List ℕ) → is_marked query_mark l ≡ true → is_marked plus_mark l ≡ false
unfolding is_marked
two_marks [] e = refl
two_marks (b ∷ bs) e = ne_eqb b plus_mark (λ z. absurd (omega (arith, eqb-true b query_mark e)))

-- after a '?' only '?' lines are good: their run reaches the end
pub bad_asked : (ls : List (List ℕ)) (text : List ℕ) → lines_of text ≡ ls → run_length query_mark ls < length text → is_bad_input true ls ≡ true
unfolding is_bad_input run_length
bad_asked [] text e h = absurd (omega (arith, ap length (no_line text e)))
bad_asked (l ∷ ls) text e h =
    by_test (is_marked query_mark l)
    (λ t. rw (two_marks l t, t) (bad_asked ls (drop (length l) text) (line_of text l ls e).rest (omega (arith, length-drop (length l) text, rw t at h))))
    (λ t. by_test (is_marked plus_mark l) (λ u. rw u) (λ u. rw (u, t)))

pub good_asked : (ls : List (List ℕ)) (text : List ℕ) → lines_of text ≡ ls → length text ≤ run_length query_mark ls → is_bad_input true ls ≡ false
unfolding is_bad_input run_length
good_asked [] text e h = refl
good_asked (l ∷ ls) text e h =
    by_test (is_marked query_mark l)
    (λ t. rw (two_marks l t, t) (good_asked ls (drop (length l) text) k.rest (omega (arith, length-drop (length l) text, rw t at h))))
    (λ t. absurd (omega (arith, k.some, k.inside, rw t at h)))
  where
    k : Line text l ls
    k = line_of text l ls e

-- the list is the text of the run of '+' lines
no_list : (ls : List (List ℕ)) → is_bad_input true ls ≡ false → list_of ls ≡ []
unfolding is_bad_input list_of
no_list [] e = refl
no_list (l ∷ ls) e =
    by_test (is_marked plus_mark l) (λ t. absurd (true≢false (rw t at e)))
    (λ t. by_test (is_marked query_mark l) (λ u. rw t (no_list ls (rw (t, u) at e))) (λ u. absurd (true≢false (rw (t, u) at e))))

pub list_run_lem : (ls : List (List ℕ)) → is_bad_input false ls ≡ false → list_of ls ≡ run_text ls
unfolding is_bad_input list_of run_text
list_run_lem [] e = refl
list_run_lem (l ∷ ls) e =
    by_test (is_marked plus_mark l) (λ t. rw t (ap (λ x. drop 1 l ++ x) (list_run_lem ls (rw t at e))))
    (λ t. rw t (by_test (is_marked query_mark l) (λ u. no_list ls (rw (t, u) at e)) (λ u. absurd (true≢false (rw (t, u) at e)))))
