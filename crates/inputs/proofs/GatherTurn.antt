-- The turns of `gather` on plain values.
--   front_drop, line_text : what stands behind the text in front, and behind the mark of a line
--   Gather                : the texts of the lines before `at` stand in front
-- Assumes nothing.
use mathlib.Core.Path.{◌≡◌, refl, sym, ◌∙◌, ap, subst}
use mathlib.Core.Logic.{by_cases}
use mathlib.Core.List.{List, [], ◌∷◌, ◌++◌, append_assoc, append-nil}
use Prim.Native.Nat.{ℕ, suc, ◌+◌, ◌-◌, ◌<◌, ◌≤◌}
use native.Mathlib.Decide.{dec_le}
use native.Mathlib.Omega.{arith}
use lib.ListN.{length, take, drop, length-drop, length-append}
use lib.Seq.{drop-drop, drop-append-add, take-append_seam}
use Rattle.theory.proofs.WordLaws.{by_test}
use Rattle.lists.specs.Counts.{next_start}
use Rattle.inputs.specs.Inputs.{lines_of, plus_mark, is_marked}
use Rattle.inputs.specs.Parsed.{run_length, run_text, fronted_by, moved_down}
use Rattle.inputs.proofs.LineLaws.{LineAt, some_line, line_of}
use Rattle.inputs.proofs.MarkLaws.{run_over}

-- behind the text in front all is as it was
pub front_drop : (text input : List ℕ) (k : ℕ) → length text ≤ k → drop k (fronted_by text input) ≡ drop k input
unfolding fronted_by
front_drop text input k h =
    ap (λ j. drop j (text ++ drop (length text) input)) (sym e)
    ∙ drop-append-add text (drop (length text) input) (k - length text)
    ∙ drop-drop (k - length text) (length text) input
    ∙ ap (λ j. drop j input) e
  where
    e : length text + (k - length text) ≡ k
    e = omega arith

pub front_length : (text input : List ℕ) → length text ≤ length input → length (fronted_by text input) ≡ length input
unfolding fronted_by
front_length text input h = length-append text (drop (length text) input) ∙ omega (arith, length-drop (length text) input)

-- a line's text is put behind the text in front
front_more : (text input u : List ℕ) (from end : ℕ) → length text ≤ from → end - from ≡ length u → take (end - from) (drop from input) ≡ u
    → moved_down (fronted_by text input) from end (length text) ≡ fronted_by (text ++ u) input
unfolding moved_down
front_more text input u from end h n e =
    ap (λ x. x ++ take (end - from) (drop from (fronted_by text input)) ++ drop (length text + (end - from)) (fronted_by text input)) starts
    ∙ ap (λ x. text ++ take (end - from) x ++ drop (length text + (end - from)) (fronted_by text input)) (front_drop text input from h)
    ∙ ap (λ x. text ++ x ++ drop (length text + (end - from)) (fronted_by text input)) e
    ∙ ap (λ x. text ++ u ++ x) (front_drop text input (length text + (end - from)) (omega arith))
    ∙ whole
  where
    starts : take (length text) (fronted_by text input) ≡ text
    starts = unfold fronted_by in take-append_seam text (drop (length text) input)

    whole : text ++ u ++ drop (length text + (end - from)) input ≡ fronted_by (text ++ u) input
    whole = unfold fronted_by in ap (λ k. text ++ u ++ drop k input) (ap (λ k. length text + k) n ∙ sym (length-append text u))

-- the text of a line stands behind its mark
pub line_text : (l x : List ℕ) → 0 < length l → take (length l) x ≡ l → take (length l - 1) (drop 1 x) ≡ drop 1 l
line_text [] x h e = absurd (omega arith)
line_text (b ∷ l) [] h e = absurd (let z : ◌≡◌ {A = ℕ} 0 (suc (length l)) = ap length e in omega arith)
line_text (b ∷ l) (a ∷ x) h e = ap (λ k. take k x) less ∙ ap (drop 1) e
  where
    less : suc (length l) - 1 ≡ length l
    less = omega arith

pub record Gather (input₀ : List ℕ) (from end : ℕ) (input : List ℕ) (list at : ℕ) : Type 0 where
  pub text : List ℕ
  pub size : list ≡ length text
  pub low : list ≤ at
  pub inside : at ≤ length input₀
  pub bytes : input ≡ fronted_by text input₀
  pub left : end ≡ at + run_length plus_mark (lines_of (drop at input₀))
  pub whole : run_text (lines_of (drop from input₀)) ≡ text ++ run_text (lines_of (drop at input₀))

-- the run and its text, at a line of it and behind it
run_line : (l : List ℕ) (ls : List (List ℕ)) → 0 < run_length plus_mark (l ∷ ls)
    → (run_length plus_mark (l ∷ ls) ≡ length l + run_length plus_mark ls) × (run_text (l ∷ ls) ≡ drop 1 l ++ run_text ls)
unfolding run_length run_text
run_line l ls h = by_test (is_marked plus_mark l) (λ t. rw t (refl, refl)) (λ t. absurd (omega (arith, rw t at h)))

-- one line of the run, and the line after it
record Turn (input₀ : List ℕ) (at next : ℕ) : Type 0 where
  pub line : List ℕ
  pub lines : List (List ℕ)
  pub here : LineAt input₀ at line lines
  pub next_is : next ≡ at + length line
  pub run : run_length plus_mark (lines_of (drop at input₀)) ≡ length line + run_length plus_mark lines
  pub text : run_text (lines_of (drop at input₀)) ≡ drop 1 line ++ run_text lines

-- no line of the run is left
run_empty : (ls : List (List ℕ)) (text : List ℕ) → lines_of text ≡ ls → run_length plus_mark ls ≡ 0 → run_text ls ≡ []
unfolding run_length run_text
run_empty [] text e h = refl
run_empty (l ∷ ls) text e h = by_test (is_marked plus_mark l) (λ t. absurd (omega (arith, (line_of text l ls e).some, rw t at h))) (λ t. rw t)

module _ {input₀ : List ℕ} {from end : ℕ} where
  pub gather_first : (from ≤ length input₀) × (end ≡ from + run_length plus_mark (lines_of (drop from input₀))) → Gather input₀ from end input₀ 0 from
  gather_first h =
      record { text = []; size = refl; low = omega arith; inside = h.0; bytes = unfold fronted_by in refl; left = h.1; whole = refl }

  pub gather_same : {input : List ℕ} {list at : ℕ} → Gather input₀ from end input list at → length input ≡ length input₀
  gather_same {input} {list} {at} g = ap length g.bytes ∙ front_length g.text input₀ (omega (arith, g.size, g.low, g.inside))

  -- where the next line starts is not changed by what stands in front
  next_kept : {input : List ℕ} {list at : ℕ} → Gather input₀ from end input list at → next_start input at ≡ next_start input₀ at
  unfolding next_start
  next_kept {input} {list} {at} g =
      rw (gather_same g, ap (drop at) g.bytes ∙ front_drop g.text input₀ at (omega (arith, g.size, g.low)))

  pub gather_inside : {input : List ℕ} {list at : ℕ} → Gather input₀ from end input list at → at < end → at < length input₀
  gather_inside {input} {list} {at} g l =
      by_cases (dec_le (length input₀) at) (λ h. absurd (omega (arith, g.left, run_over plus_mark input₀ at h))) (λ h. omega arith)

  turn_of : {input : List ℕ} {list at next : ℕ} → Gather input₀ from end input list at → at < end → next ≡ next_start input at → Turn input₀ at next
  turn_of {input} {list} {at} {next} g l n =
      let s = some_line input₀ at (gather_inside g l) in
      let k = s.here in
      let r = run_line s.line s.lines (subst (λ x. 0 < x) (ap (run_length plus_mark) k.is) (omega (arith, g.left))) in
      record {
        line = s.line;
        lines = s.lines;
        here = k;
        next_is = n ∙ next_kept g ∙ sym k.next;
        run = ap (run_length plus_mark) k.is ∙ r.0;
        text = ap run_text k.is ∙ r.1;
      }

  -- what `move_down` asks
  pub gather_asks : {input : List ℕ} {list at next : ℕ} → Gather input₀ from end input list at → at < end → next ≡ next_start input at
      → (list ≤ at + 1) × (at + 1 ≤ next) × (next ≤ length input)
  gather_asks {input} {list} {at} {next} g l n =
      let t = turn_of g l n in
      (omega (arith, g.low), omega (arith, t.next_is, t.here.line.some), omega (arith, t.next_is, t.here.inside, gather_same g))

  pub gather_turn : {input input' : List ℕ} {list list' at next : ℕ} → Gather input₀ from end input list at → at < end → next ≡ next_start input at
      → list' ≡ list + (next - (at + 1)) → input' ≡ moved_down input (at + 1) next list → Gather input₀ from end input' list' next
  gather_turn {input} {input'} {list} {list'} {at} {next} g l n p m =
      record {
        text = g.text ++ drop 1 t.line;
        size = p ∙ omega (arith, g.size, sized, length-append g.text (drop 1 t.line));
        low = omega (arith, g.low, p, t.next_is, t.here.line.some);
        inside = omega (arith, t.next_is, t.here.inside);
        bytes =
            m ∙ ap (λ k. moved_down input (at + 1) next k) g.size
            ∙ ap (λ x. moved_down x (at + 1) next (length g.text)) g.bytes
            ∙ front_more g.text input₀ (drop 1 t.line) (at + 1) next (omega (arith, g.size, g.low)) sized taken;
        left = omega (arith, g.left, t.run, t.next_is, ap (λ k. run_length plus_mark (lines_of (drop k input₀))) t.next_is ∙ ap (run_length plus_mark) t.here.rest);
        whole =
            g.whole
            ∙ ap (λ x. g.text ++ x) t.text
            ∙ sym (append_assoc g.text (drop 1 t.line) (run_text t.lines))
            ∙ ap (λ x. g.text ++ drop 1 t.line ++ run_text x) (sym (ap (λ k. lines_of (drop k input₀)) t.next_is ∙ t.here.rest));
      }
    where
      t : Turn input₀ at next
      t = turn_of g l n

      sized : next - (at + 1) ≡ length (drop 1 t.line)
      sized = omega (arith, t.next_is, length-drop 1 t.line, t.here.line.some)

      less : next - (at + 1) ≡ length t.line - 1
      less = omega (arith, t.next_is, t.here.line.some)

      taken : take (next - (at + 1)) (drop (at + 1) input₀) ≡ drop 1 t.line
      taken =
          ap (λ k. take k (drop (at + 1) input₀)) less
          ∙ ap (take (length t.line - 1)) (sym (drop-drop 1 at input₀))
          ∙ line_text t.line (drop at input₀) t.here.line.some t.here.line.starts

  pub gather_less : {input : List ℕ} {list at next : ℕ} → Gather input₀ from end input list at → at < end → next ≡ next_start input at → end - next < end - at
  gather_less {input} {list} {at} {next} g l n = let t = turn_of g l n in omega (arith, t.next_is, t.here.line.some)

  pub gather_text : {input : List ℕ} {list at : ℕ} (g : Gather input₀ from end input list at) → end ≤ at → run_text (lines_of (drop from input₀)) ≡ g.text
  gather_text {input} {list} {at} g l =
      g.whole ∙ ap (λ x. g.text ++ x) (run_empty (lines_of (drop at input₀)) (drop at input₀) refl (omega (arith, g.left))) ∙ append-nil g.text

  pub gather_size : {input : List ℕ} {list at : ℕ} → Gather input₀ from end input list at → end ≤ at → list ≡ length (run_text (lines_of (drop from input₀)))
  gather_size g l = g.size ∙ sym (ap length (gather_text g l))

  pub gather_done : {input : List ℕ} {list at : ℕ} → Gather input₀ from end input list at → end ≤ at → input ≡ fronted_by (run_text (lines_of (drop from input₀))) input₀
  gather_done g l = g.bytes ∙ sym (ap (λ x. fronted_by x input₀) (gather_text g l))
