-- What the parts of `express` say of the query's reduced word, cited by their contracts.
--   is_home n N t w  == the word leads from the base to the base
--   notes_of n N t w == the signed numbers noted along the word, read from the base
--   marked_work      == the marks in the first cells, the others as they were
--   WordOutcome     <-> the answer, the output, and the work cells: with marks where numbers were written, else as they were
-- Assumes nothing.
use Rattle.std.specs.Prelude.{◌≡◌, Bool, cond, List, ◌++◌, ℕ, ◌*◌, ltb, ℤ, length, drop}
use Rattle.theory.specs.Letters.{usual}
use Rattle.theory.specs.Tables.{cell, end_of, is_at}
use Rattle.theory.specs.Basis.{crossings}
use Rattle.edges.specs.Edges.{marks_of}
use Rattle.std.specs.declared.option.Option.{Option}
use Rattle.std.specs.declared.option.Option.TheVariants.{None, Some}
use Rattle.std.specs.declared.result.Result.{Result}
use Rattle.std.specs.declared.result.Result.TheVariants.{Ok, Err}
use Rattle.refusals.specs.declared.Cause.TheVariants.{Output}
use Rattle.refusals.specs.declared.Refusal.{Refusal}
use Rattle.refusals.specs.Given.{refusal_at}

unfoldable pub is_home : ℕ → ℕ → List ℕ → List ℕ → Bool
is_home n N t w = is_at 0 (end_of (cell n N t) 0 w)

unfoldable pub notes_of : ℕ → ℕ → List ℕ → List ℕ → List ℤ
notes_of n N t w = crossings (cell n N t) N (usual n) 0 w

-- the first k numbers, in front of what stands behind them
abbrev pub in_front : List ℤ → List ℤ → List ℤ
in_front ks out = ks ++ drop (length ks) out

abbrev pub word_answer : ℕ → ℕ → List ℕ → List ℕ → ℕ → Result (Option ℕ) Refusal
word_answer n N t w space =
    cond (is_home n N t w)
    (cond (ltb space (length (notes_of n N t w))) (Err (refusal_at Output (length (notes_of n N t w))))
    (Ok (Some (length (notes_of n N t w))))) (Ok None)

abbrev pub word_out : ℕ → ℕ → List ℕ → List ℕ → List ℤ → List ℤ
word_out n N t w out =
    cond (is_home n N t w) (cond (ltb (length out) (length (notes_of n N t w))) out (in_front (notes_of n N t w) out)) out

abbrev pub marked_work : ℕ → ℕ → List ℕ → ℕ → List ℕ → List ℕ
marked_work n N t marks work = marks_of (cell n N t) N (usual n) marks marks ++ drop (2 * marks) work

abbrev pub word_work : ℕ → ℕ → List ℕ → List ℕ → ℕ → ℕ → List ℕ → List ℕ
word_work n N t w marks space work =
    cond (is_home n N t w) (cond (ltb space (length (notes_of n N t w))) work (marked_work n N t marks work)) work

pub record WordOutcome (n N : ℕ) (t w : List ℕ) (marks : ℕ) (work : List ℕ) (out : List ℤ) (r : Result (Option ℕ) Refusal) (work' : List ℕ) (out' : List ℤ) : Type 0 where
  pub answer : r ≡ word_answer n N t w (length out)
  pub numbers : out' ≡ word_out n N t w out
  pub cells : work' ≡ word_work n N t w marks (length out) work
