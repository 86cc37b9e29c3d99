-- Laws of the start graph (`specs/Graphs`): its counts, and the property that folding keeps.
--   reduced_length ws == S, the letters of the reduced words together
--   non_empty_words ws == the number of words that are not empty after reduction
--   written_length ws == the letters of the words as written
--   Good ws g       <-> what every graph on the way from the start graph to the folded one has: see its fields
--   start_good       : the start graph is good
-- Assumes nothing.
use mathlib.Core.Path.{◌≡◌, refl, ◌∙◌, ap}
use mathlib.Core.Logic.{◌⊎◌, inl, inr, by_cases}
use mathlib.Core.List.{List, [], ◌∷◌}
use Prim.Native.Nat.{ℕ, zero, suc, ◌+◌, ◌<◌, ◌≤◌}
use native.Mathlib.Decide.{ℕ_discrete}
use native.Mathlib.Omega.{arith}
use lib.Dec.{eqb}
use lib.ListN.{length, get_or, length-append}
use Rattle.theory.specs.Words.{put, reduced_by, undoes, reduced, Member}
use Rattle.theory.specs.Letters.{letter_of, line_end, up_to, on_first, words_of, letters_in}
use Rattle.theory.specs.Tables.{Reads}
use Rattle.theory.specs.Graphs.{Edge, Graph, Along, circle, new_points, circles, start_points, start_graph}
pub use Rattle.theory.specs.Graphs.{reduced_length, one_if_any, non_empty_words}
use Rattle.theory.proofs.WordLaws.{by_test, member_listed}
use Rattle.theory.proofs.ReadLaws.{Steps, member_subgroup}
use Rattle.theory.proofs.TableLaws.{length-up_to}
use Rattle.theory.proofs.DistinctLaws.{Distinct, up_to_mem, mem_up_to, distinct_up_to}
use Rattle.theory.proofs.MemLaws.{◌∈◌}
use Rattle.theory.proofs.GraphLaws.{Within, along_back}
use Rattle.theory.proofs.LabelLaws.{Labelled}
use Rattle.theory.proofs.CircleLaws.{
  TwoWays,
  start_label,
  label_before,
  points_some,
  circles_loops,
  circles_point,
  circles_labelled,
  circles_below,
  circles_lettered,
}

-- ── Counts ──

unfoldable pub written_length : List (List ℕ) → ℕ
written_length [] = zero
written_length (w ∷ ws) = length w + written_length ws

length_circle : (v k : ℕ) (w : List ℕ) → length (circle v k w) ≡ length w
unfolding circle
length_circle v k [] = refl
length_circle v k (y ∷ []) = refl
length_circle v k (y ∷ (z ∷ w)) = ap suc (length_circle k (suc k) (z ∷ w))

length_circles : (k : ℕ) (ws : List (List ℕ)) → length (circles k ws) ≡ reduced_length ws
unfolding circles reduced_length
length_circles k [] = refl
length_circles k (w ∷ ws) =
    length-append (circle 0 k (reduced w)) (circles (k + new_points (reduced w)) ws)
    ∙ omega (arith, length_circle 0 k (reduced w), length_circles (k + new_points (reduced w)) ws)

-- the start graph has S edges
pub start_edges : (ws : List (List ℕ)) → length (start_graph ws).edges ≡ reduced_length ws
unfolding start_graph
start_edges ws = length_circles 1 ws

-- a circle has one point less than letters besides the base
circle_count : (w : List ℕ) → new_points w + one_if_any w ≡ length w
circle_count [] = omega arith
circle_count (y ∷ w) = omega arith

start_points_count : (ws : List (List ℕ)) → start_points ws + non_empty_words ws ≡ reduced_length ws + 1
unfolding start_points non_empty_words reduced_length
start_points_count [] = refl
start_points_count (w ∷ ws) = omega (arith, circle_count (reduced w), start_points_count ws)

-- the start graph has S − m + 1 points
pub start_points_lem : (ws : List (List ℕ)) → length (start_graph ws).points + non_empty_words ws ≡ reduced_length ws + 1
unfolding start_graph
start_points_lem ws = omega (arith, length-up_to (start_points ws), start_points_count ws)

-- reduction does not lengthen a word
pub reduced_shorter : (w : List ℕ) → length (reduced w) ≤ length w
unfolding reduced_by put
reduced_shorter [] = omega arith
reduced_shorter (y ∷ w) = omega (arith, put_length (reduced w), reduced_shorter w)
  where
    put_length : (v : List ℕ) → length (put undoes y v) ≤ suc (length v)
    put_length [] = omega arith
    put_length (x ∷ v) = by_test (undoes y x) (λ e. rw e (omega arith)) (λ e. rw e (omega arith))

-- S is at most the number of written letters
pub reduced_length_written : (ws : List (List ℕ)) → reduced_length ws ≤ written_length ws
unfolding reduced_length written_length
reduced_length_written [] = omega arith
reduced_length_written (w ∷ ws) = omega (arith, reduced_shorter w, reduced_length_written ws)

-- the written letters of a text's words are the letters of the text
pub written_letters : (text : List ℕ) → written_length (words_of text) ≡ letters_in text
unfolding written_length words_of letters_in on_first
written_letters [] = refl
written_letters (b ∷ bs) =
    by_test (eqb b line_end) (λ e. rw e (omega (arith, written_letters bs)))
    (λ e. rw e (first (words_of bs) ∙ ap suc (written_letters bs)))
  where
    first : (ws : List (List ℕ)) → written_length (on_first (letter_of b) ws) ≡ suc (written_length ws)
    first [] = omega arith
    first (w ∷ ws) = omega arith

-- at most all words are not empty
pub non_empty_words_all : (ws : List (List ℕ)) → non_empty_words ws ≤ length ws
unfolding non_empty_words
non_empty_words_all [] = omega arith
non_empty_words_all (w ∷ ws) = omega (arith, at_most_one_of (reduced w), non_empty_words_all ws)
  where
    at_most_one_of : (v : List ℕ) → one_if_any v ≤ 1
    at_most_one_of [] = omega arith
    at_most_one_of (y ∷ v) = omega arith

-- ── What folding keeps ──

pub record Good (ws : List (List ℕ)) (g : Graph) : Type 0 where
  -- no point stands twice; the base and the ends of edges are points; edges have letters
  pub distinct : Distinct g.points
  pub base_in : g.base ∈ g.points
  pub ends_in : (v y x : ℕ) → Along g.edges v y x → v ∈ g.points
  pub lettered : (e : Edge) → e ∈ g.edges → 1 ≤ e.generator
  -- each point has a label, a word that leads to it; label, letter, inverse label is a member for each edge
  pub label : ℕ → List ℕ
  pub label_base : Member ws (label g.base)
  pub label_step : Within g.edges (Labelled (Member ws) label)
  pub reached : (p : ℕ) → p ∈ g.points → Reads (Along g.edges) g.base (label p) p
  -- each reduced listed word is a loop at the base
  pub loops : (k : ℕ) → k < length ws → Reads (Along g.edges) g.base (reduced (get_or ws k [])) g.base
  -- each point but the base has two ways home
  pub ways : (p : ℕ) → p ∈ g.points → (p ≡ g.base) ⊎ TwoWays (Along g.edges) g.base p

-- ── The start graph ──

-- the start graph is good
pub start_good : (ws : List (List ℕ)) → Good ws (start_graph ws)
unfolding start_graph
start_good ws =
    record {
      distinct = distinct_up_to (start_points ws);
      base_in = mem_up_to (start_points ws) 0 (points_some ws);
      ends_in = λ v y x m. mem_up_to (start_points ws) v
          (circles_below (start_points ws) 1 ws (points_some ws) (omega arith) v y x m).0;
      lettered = circles_lettered 1 ws;
      label = start_label 1 ws;
      label_base = rw empty (member_subgroup ws).empty;
      label_step =
          circles_labelled (member_subgroup ws) (start_label 1 ws) empty 1 ws (member_listed ws) (λ p lo. refl);
      reached = λ p m. by_cases (ℕ_discrete p 0) (λ e. rw (e, empty)) (λ n. (point p m n).1);
      loops = circles_loops E along_back 1 ws (λ a l b m. m);
      ways = λ p m. by_cases (ℕ_discrete p 0) inl (λ n. inr (point p m n).0);
    }
  where
    E : Steps
    E = Along (circles 1 ws)

    empty : start_label 1 ws 0 ≡ []
    empty = label_before 1 ws 0 (omega arith)

    point : (p : ℕ) → p ∈ up_to (start_points ws) → (p ≡ 0 → ⊥) → TwoWays E 0 p × Reads E 0 (start_label 1 ws p) p
    point p m n =
        circles_point E along_back 1 ws (λ a l b t. t) p (omega arith) (omega (arith, up_to_mem (start_points ws) m))
