-- Laws of lines (`specs/Inputs`): where a line ends, and the lines behind it.
--   line_size text    == the bytes of the first line, with its end if it has one
--   lines_walk       : a text that is not empty has its first line and then the lines behind it
--   Line text l ls   <-> l is the first line of the text and ls are the lines behind it
--   line_of, no_line : what the lines of a text say of it
--   first_line_lem, later_lines_lem, first_word : the first line, the later ones, and the first line without its end, by places
--   LineAt, SomeLine, line_at : the line that starts at a place inside the text, and where the next one starts
-- Assumes nothing.
use mathlib.Core.Path.{◌≡◌, refl, sym, ◌∙◌, ap}
use mathlib.Core.Logic.{by_cases}
use mathlib.Core.List.{List, [], ◌∷◌}
use Prim.Native.Nat.{ℕ, suc, ◌+◌, ◌<◌, ◌≤◌, min}
use native.Mathlib.Decide.{ℕ_discrete}
use native.Mathlib.Omega.{arith}
use lib.ListN.{length, take, drop, length-drop, drop_of_length-le}
use lib.Seq.{length-take-le, take-nil, drop-nil, drop-drop}
use borrow.Author.Tests.{eq-eqb, ne_eqb}
use Rattle.theory.specs.Letters.{line_end, word_length, on_first}
use Rattle.lists.specs.Counts.{next_start}
use Rattle.inputs.specs.Inputs.{lines_of, head_of, first_line, later_lines, without_end}

unfoldable pub line_size : List ℕ → ℕ
line_size text = min (length text) (suc (word_length text))

size_stop : (b : ℕ) (bs : List ℕ) → b ≡ line_end → line_size (b ∷ bs) ≡ 1
unfolding line_size word_length
size_stop b bs e = rw (eq-eqb b line_end e) (omega arith)

size_pass : (b : ℕ) (bs : List ℕ) → (b ≡ line_end → ⊥) → line_size (b ∷ bs) ≡ suc (line_size bs)
unfolding line_size word_length
size_pass b bs e = rw (ne_eqb b line_end e) (omega arith)

pub size_inside : (text : List ℕ) → line_size text ≤ length text
unfolding line_size
size_inside text = omega arith

size_some : (text : List ℕ) → 0 < length text → 0 < line_size text
unfolding line_size
size_some text h = omega arith

-- a byte that does not end the line stands in front of it
on_first_lem : (b : ℕ) (l : List ℕ) → (0 < length l → lines_of l ≡ take (line_size l) l ∷ lines_of (drop (line_size l) l)) → on_first b (lines_of l) ≡ (b ∷ take (line_size l) l) ∷ lines_of (drop (line_size l) l)
unfolding on_first line_size lines_of word_length
on_first_lem b [] w = refl
on_first_lem b (a ∷ l) w = ap (on_first b) (w (omega arith))

pub lines_walk : (text : List ℕ) → 0 < length text → lines_of text ≡ take (line_size text) text ∷ lines_of (drop (line_size text) text)
unfolding lines_of
lines_walk [] h = absurd (omega arith)
lines_walk (b ∷ bs) h =
    by_cases (ℕ_discrete b line_end) (λ e. rw (eq-eqb b line_end e, size_stop b bs e))
    (λ e. rw (ne_eqb b line_end e, size_pass b bs e) (on_first_lem b bs (lines_walk bs)))

-- l is the first line of the text, and ls are the lines behind it
pub record Line (text l : List ℕ) (ls : List (List ℕ)) : Type 0 where
  pub starts : take (length l) text ≡ l
  pub rest : lines_of (drop (length l) text) ≡ ls
  pub size : length l ≡ line_size text
  pub some : 0 < length l
  pub inside : length l ≤ length text

empty_line : {l : List ℕ} {ls : List (List ℕ)} → l ∷ ls ≡ [] → ⊥
empty_line {l} {ls} e = let z : ◌≡◌ {A = ℕ} (suc (length ls)) 0 = ap length e in omega arith

no_lines : lines_of [] ≡ []
unfolding lines_of
no_lines = refl

-- a text without lines is empty
pub no_line : (text : List ℕ) → lines_of text ≡ [] → text ≡ []
no_line [] e = refl
no_line (b ∷ bs) e = absurd (empty_line (sym (lines_walk (b ∷ bs) (omega arith)) ∙ e))

pub line_of : (text l : List ℕ) (ls : List (List ℕ)) → lines_of text ≡ l ∷ ls → Line text l ls
line_of [] l ls e = absurd (empty_line (sym e ∙ no_lines))
line_of (b ∷ bs) l ls e =
    record {
      starts = ap (λ k. take k (b ∷ bs)) sized ∙ head;
      rest = ap (λ k. lines_of (drop k (b ∷ bs))) sized ∙ tail;
      size = sized;
      some = omega (arith, sized, size_some (b ∷ bs) (omega arith));
      inside = omega (arith, sized, size_inside (b ∷ bs));
    }
  where
    both : take (line_size (b ∷ bs)) (b ∷ bs) ∷ lines_of (drop (line_size (b ∷ bs)) (b ∷ bs)) ≡ l ∷ ls
    both = sym (lines_walk (b ∷ bs) (omega arith)) ∙ e

    head : take (line_size (b ∷ bs)) (b ∷ bs) ≡ l
    head = ap head_of both

    tail : lines_of (drop (line_size (b ∷ bs)) (b ∷ bs)) ≡ ls
    tail = ap (λ k. drop 1 k) both

    sized : length l ≡ line_size (b ∷ bs)
    sized = sym (ap length head) ∙ length-take-le (line_size (b ∷ bs)) (b ∷ bs) (size_inside (b ∷ bs))

-- ── The first line and the later ones ──

pub first_line_lem : (text : List ℕ) → first_line text ≡ take (line_size text) text
first_line_lem [] = ap head_of no_lines ∙ sym (take-nil (line_size []))
first_line_lem (b ∷ bs) = ap head_of (lines_walk (b ∷ bs) (omega arith))

pub first_size : (text : List ℕ) → length (first_line text) ≡ line_size text
first_size text = ap length (first_line_lem text) ∙ length-take-le (line_size text) text (size_inside text)

pub later_lines_lem : (text : List ℕ) → later_lines text ≡ lines_of (drop (line_size text) text)
later_lines_lem [] = ap (λ k. drop 1 k) no_lines ∙ sym no_lines ∙ sym (ap lines_of (drop-nil (line_size [])))
later_lines_lem (b ∷ bs) = ap (λ k. drop 1 k) (lines_walk (b ∷ bs) (omega arith))

-- a line without its end: the bytes before the first line end
pub without_end_lem : (text : List ℕ) → without_end (take (line_size text) text) ≡ take (word_length text) text
unfolding without_end word_length
without_end_lem [] = ap without_end (take-nil (line_size []))
without_end_lem (b ∷ bs) =
    by_cases (ℕ_discrete b line_end) (λ e. rw (size_stop b bs e, eq-eqb b line_end e))
    (λ e. rw (size_pass b bs e, ne_eqb b line_end e) (ap (λ k. b ∷ k) (without_end_lem bs)))

pub first_word : (text : List ℕ) → without_end (first_line text) ≡ take (word_length text) text
first_word text = ap without_end (first_line_lem text) ∙ without_end_lem text

-- ── The walk ──

-- where the line after the one at the text's start starts
pub next_first : (text : List ℕ) → next_start text 0 ≡ line_size text
unfolding next_start line_size
next_first text = omega arith

-- at a place inside the text a line starts, and `next_start` says where the next one does
pub record LineAt (text : List ℕ) (at : ℕ) (l : List ℕ) (ls : List (List ℕ)) : Type 0 where
  pub is : lines_of (drop at text) ≡ l ∷ ls
  pub line : Line (drop at text) l ls
  pub next : at + length l ≡ next_start text at
  pub rest : lines_of (drop (at + length l) text) ≡ ls
  pub inside : at + length l ≤ length text

pub line_at : (text : List ℕ) (at : ℕ) → at < length text → (l : List ℕ) (ls : List (List ℕ)) → lines_of (drop at text) ≡ l ∷ ls → LineAt text at l ls
unfolding next_start line_size
line_at text at h l ls e =
    let k = line_of (drop at text) l ls e in
    record {
      is = e;
      line = k;
      next = omega (arith, k.size, length-drop at text);
      rest = sym (ap lines_of (drop-drop (length l) at text)) ∙ k.rest;
      inside = omega (arith, k.inside, length-drop at text);
    }

-- there is one
pub record SomeLine (text : List ℕ) (at : ℕ) : Type 0 where
  pub line : List ℕ
  pub lines : List (List ℕ)
  pub here : LineAt text at line lines

pub some_line : (text : List ℕ) (at : ℕ) → at < length text → SomeLine text at
some_line text at h = go (lines_of (drop at text)) refl
  where
    go : (ls : List (List ℕ)) → lines_of (drop at text) ≡ ls → SomeLine text at
    go [] e = absurd (omega (arith, ap length (no_line (drop at text) e), length-drop at text))
    go (l ∷ ls) e = record { line = l; lines = ls; here = line_at text at h l ls e }

pub lines_end : (text : List ℕ) (at : ℕ) → length text ≤ at → lines_of (drop at text) ≡ []
lines_end text at h = ap lines_of (drop_of_length-le text h) ∙ no_lines
