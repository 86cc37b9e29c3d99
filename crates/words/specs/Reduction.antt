-- What reducing a word leaves in the lent cells, cited by this crate's contracts.
--   reduced_cells w work == the reduction of w, then a 0 for each letter that went, then the cells of work that no letter took
--   ReducedInto         <-> the figures and the cells after `reduce`
--   Pushed              <-> the new length and the cells after `push`
-- Assumes nothing.
use Rattle.std.specs.Prelude.{◌≡◌, Bool, cond, ◌&&◌, List, ◌++◌, ℕ, ◌+◌, ◌-◌, eqb, ltb, length, get_or, drop, set, replicate}
use Rattle.theory.specs.Words.{inv, reduced}
use Rattle.theory.specs.Letters.{word_length, first_word}
use Rattle.words.specs.declared.Reduced.{Reduced}

unfoldable pub reduced_cells : List ℕ → List ℕ → List ℕ
reduced_cells w work = reduced w ++ replicate (length w - length (reduced w)) 0 ++ drop (length w) work

pub record ReducedInto (part work : List ℕ) (r : Reduced) (after : List ℕ) : Type 0 where
  pub read : r.read ≡ word_length part
  pub left : r.left ≡ length (reduced (first_word part))
  pub cells : after ≡ reduced_cells (first_word part) work

-- the letter at the end of the first `top` cells is the inverse of y
unfoldable pub is_gone : List ℕ → ℕ → ℕ → Bool
is_gone work top y = ltb 0 top && eqb (get_or work (top - 1) 0) (inv y)

-- letter y, the i-th that is read, takes the last letter away, or stays behind it
pub record Pushed (work : List ℕ) (top i y r : ℕ) (after : List ℕ) : Type 0 where
  pub left : r ≡ cond (is_gone work top y) (top - 1) (top + 1)
  pub cells : after ≡ cond (is_gone work top y) (set (set work i 0) (top - 1) 0) (set (set work i 0) top y)
