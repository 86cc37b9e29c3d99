-- The turns of `start_size` on plain values: the words before `at` are counted, those behind it are still to come.
-- Assumes nothing.
use mathlib.Core.Path.{◌≡◌, refl, sym, ◌∙◌, ap, subst}
use mathlib.Core.Logic.{by_cases}
use mathlib.Core.List.{List, [], ◌∷◌, ◌++◌}
use Prim.Native.Nat.{ℕ, suc, ◌+◌, ◌-◌, ◌≤◌, ◌<◌, min}
use native.Mathlib.Decide.{dec_le}
use native.Mathlib.Omega.{arith}
use lib.ListN.{length, take, drop, replicate, length-drop, drop_of_length-le}
use lib.Seq.{drop-drop, drop-length}
use Rattle.theory.specs.Letters.{letters_in, word_length, first_word, words_of}
use Rattle.theory.specs.Graphs.{start_points, start_graph, reduced_length}
use Rattle.theory.proofs.TextLaws.{words_walk, word_letters, letters_drop, letters_le, length-first_word}
use Rattle.theory.proofs.TableLaws.{length-up_to}
use Rattle.theory.proofs.StartLaws.{start_edges, start_points_lem, reduced_length_written, written_letters}
use Rattle.cells.specs.Filled.{filled}
use Rattle.words.specs.Reduction.{ReducedInto}
use Rattle.words.specs.declared.Reduced.{Reduced}
use Rattle.words.proofs.ReduceTurn.{cells_kept}
use Rattle.lists.specs.Counts.{next_start, StartSizeOf}
use Rattle.lists.proofs.CountTurn.{rest_of}

pub record Head (list work : List ℕ) (points edges at : ℕ) (cells : List ℕ) : Type 0 where
  pub inside : at ≤ length list
  pub room : letters_in list ≤ length work
  pub same : length cells ≡ length work
  pub kept : drop (letters_in list) cells ≡ drop (letters_in list) work
  pub pointed : points + start_points (words_of (drop at list)) ≡ start_points (words_of list) + 1
  pub edged : edges + reduced_length (words_of (drop at list)) ≡ reduced_length (words_of list)

pub head_first : (list work : List ℕ) → letters_in list ≤ length work → Head list work 1 0 0 work
head_first list work h =
    record { inside = omega arith; room = h; same = refl; kept = refl; pointed = omega arith; edged = omega arith }

-- what is left of a list from its end on, or beyond
drop_min : (l : List ℕ) (k : ℕ) → drop (min (length l) k) l ≡ drop k l
drop_min l k =
    by_cases (dec_le k (length l)) (λ h. ap (λ j. drop j l) (small h))
    (λ h. ap (λ j. drop j l) (large h) ∙ drop-length l ∙ sym (drop_of_length-le l {i = k} (omega arith)))
  where
    small : k ≤ length l → min (length l) k ≡ k
    small h = omega arith

    large : (k ≤ length l → ⊥) → min (length l) k ≡ length l
    large h = omega arith

-- the walk goes from word to word
pub words_next : (list : List ℕ) (at next : ℕ) → at < length list → next ≡ next_start list at
    → words_of (drop at list) ≡ first_word (drop at list) ∷ words_of (drop next list)
unfolding next_start
words_next list at next l f = here ∙ ap (λ ws. first_word d ∷ ws) (sym there)
  where
    d : List ℕ
    d = drop at list

    here : words_of d ≡ first_word d ∷ words_of (drop (suc (word_length d)) d)
    here = words_walk d (rw length-drop (omega arith))

    there : words_of (drop next list) ≡ words_of (drop (suc (word_length d)) d)
    there =
        ap words_of (ap (λ j. drop j list) f ∙ drop_min list (at + suc (word_length d)) ∙ sym (drop-drop (suc (word_length d)) at list))

-- each place that the walk comes to is in the list
pub next_in : (list : List ℕ) (at next : ℕ) → next ≡ next_start list at → next ≤ length list
unfolding next_start
next_in list at next e = omega arith

module _ {list work : List ℕ} {points edges at : ℕ} {cells : List ℕ} (h : Head list work points edges at cells) where
  -- the part that is handed over is the rest of the list, and its word has room
  pub head_room : word_length (take (length list - at) (drop at list)) ≤ length cells
  head_room =
      rw (rest_of list at)
      (omega (arith, word_letters (drop at list), letters_drop at list, h.room, h.same))

  pub head_turn : {r : Reduced} {n next : ℕ} {after : List ℕ} → at < length list
      → ReducedInto (take (length list - at) (drop at list)) cells r after → length after ≡ length cells → n ≡ r.left - 1
      → next ≡ next_start list at → Head list work (points + n) (edges + r.left) next after
  unfolding start_points reduced_length
  head_turn {r} {n} {next} {after} l p k e f =
      record {
        inside = next_in list at next f;
        room = h.room;
        same = k ∙ h.same;
        kept = ap (drop (letters_in list)) into.cells ∙ cells_kept w cells (letters_in list) (omega (arith, length-first_word d, word_letters d, letters_drop at list)) ∙ h.kept;
        pointed = omega (arith, h.pointed, ap start_points walk, into.left, e);
        edged = omega (arith, h.edged, ap reduced_length walk, into.left);
      }
    where
      d : List ℕ
      d = drop at list

      w : List ℕ
      w = first_word d

      into : ReducedInto d cells r after
      into = subst (λ part. ReducedInto part cells r after) (rest_of list at) p

      walk : words_of d ≡ w ∷ words_of (drop next list)
      walk = words_next list at next l f

  -- the counts stay small
  pub head_small : (points ≤ length list + 1) × (edges ≤ length list)
  unfolding start_graph start_points
  head_small = (
    omega (arith, h.pointed, some_point (words_of (drop at list)), start_points_lem (words_of list), length-up_to (start_points (words_of list)), reduced_length_written (words_of list), written_letters list, letters_le list),
    omega (arith, h.edged, reduced_length_written (words_of list), written_letters list, letters_le list),
  )
    where
      some_point : (ws : List (List ℕ)) → 1 ≤ start_points ws
      some_point [] = omega arith
      some_point (v ∷ ws) = omega (arith, some_point ws)

  pub head_done : {k : ℕ} {after : List ℕ} → length list ≤ at → k ≡ letters_in list → after ≡ filled k 0 cells → StartSizeOf list work (record { points = points; edges = edges }) after
  unfolding start_points reduced_length words_of filled start_graph
  head_done {k} {after} l i e =
      record {
        points = omega (arith, h.pointed, ap start_points over, length-up_to (start_points (words_of list)));
        edges = omega (arith, h.edged, ap reduced_length over, start_edges (words_of list));
        cells = e ∙ ap (λ j. filled j 0 cells) i ∙ ap (λ c. replicate (letters_in list) 0 ++ c) h.kept;
      }
    where
      over : words_of (drop at list) ≡ []
      over = ap words_of (drop_of_length-le list l)
