-- What writing a basis says and leaves (document 01: refusals 1, 6, 7, 8, 9, or the words written as a list), cited by `basis`.
--   basis_text n N t    == the basis of the table as a list text
--   BasisCause         == the causes of `basis`, by number; basis_refusal == the first of them, computed
--   basis_size         == how many words and bytes are written where nothing is refused
--   work_for, out_for  == the work cells then: 4 × N of them 0, but untouched by refusals 1 to 8; and the output: the text, then as it was
--   BasisOutcome      <-> the answer and both buffers are those
-- `room` is the number of work cells, `space` that of output bytes. Assumes nothing.
use Rattle.std.specs.Prelude.{◌≡◌, cond, not, List, ◌++◌, ℕ, ◌*◌, eqb, ltb, length, drop}
use Rattle.std.proofs.Math.Option.{Option, none, some}
use Rattle.std.specs.declared.result.Result.{Result}
use Rattle.theory.specs.Letters.{usual}
use Rattle.theory.specs.Refusals.{Refusal as FirstCause, Cause1, Cause6Lent, CauseShort, Only, Join, is_alphabet, or_else, refused_if}
use Rattle.theory.specs.TableRefusals.{Cause8, is_lent, cell_refusal}
use Rattle.theory.specs.Tables.{cell}
use Rattle.theory.specs.Basis.{basis_of}
use Rattle.theory.specs.Texts.{list_text}
use Rattle.cells.specs.Filled.{filled}
use Rattle.refusals.specs.declared.Refusal.{Refusal}
use Rattle.refusals.specs.Given.{unless}
use Rattle.lists.specs.declared.TextSize.{TextSize}

-- the basis words, in document 01's order
abbrev pub basis_words : ℕ → ℕ → List ℕ → List (List ℕ)
basis_words n N t = basis_of (cell n N t) N (usual n)

unfoldable pub basis_text : ℕ → ℕ → List ℕ → List ℕ
basis_text n N t = list_text (basis_words n N t)

abbrev pub BasisCause : ℕ → ℕ → List ℕ → ℕ → ℕ → ℕ → ℕ → Type 0
BasisCause n N t room space =
    Join (Only 1 (Cause1 n))
    (Join (Only 6 (Cause6Lent n N (length t)))
    (Join (Only 7 (CauseShort (4 * N) room))
    (Join (Only 8 (Cause8 n N t)) (Only 9 (CauseShort (length (basis_text n N t)) space)))))

-- refusals 1, 6, 7 and 8
unfoldable pub early_refusal : ℕ → ℕ → List ℕ → ℕ → Option FirstCause → Option FirstCause
early_refusal n N t room late =
    or_else (refused_if (not (is_alphabet n)) 1 0)
    (or_else (refused_if (not (is_lent n N (length t))) 6 0)
    (or_else (refused_if (ltb room (4 * N)) 7 (4 * N)) (or_else (cell_refusal n N t) late)))

unfoldable pub basis_refusal : ℕ → ℕ → List ℕ → ℕ → ℕ → Option FirstCause
basis_refusal n N t room space =
    early_refusal n N t room (refused_if (ltb space (length (basis_text n N t))) 9 (length (basis_text n N t)))

-- how many words and bytes are written
abbrev pub basis_size : ℕ → ℕ → List ℕ → TextSize
basis_size n N t = record { words = length (basis_words n N t); bytes = length (basis_text n N t) }

-- 9 leaves the needed cells 0, as success does
abbrev pub work_for : ℕ → List ℕ → Option FirstCause → List ℕ
work_for N work none = filled (4 * N) 0 work
work_for N work (some r) = cond (eqb r.number 9) (filled (4 * N) 0 work) work

abbrev pub out_for : List ℕ → List ℕ → Option FirstCause → List ℕ
out_for text out none = text ++ drop (length text) out
out_for text out (some r) = out

pub record BasisOutcome (n N : ℕ) (t work out : List ℕ) (r : Result TextSize Refusal) (work' out' : List ℕ) : Type 0 where
  pub answer : r ≡ unless (basis_refusal n N t (length work) (length out)) (basis_size n N t)
  pub cells : work' ≡ work_for N work (basis_refusal n N t (length work) (length out))
  pub text : out' ≡ out_for (basis_text n N t) out (basis_refusal n N t (length work) (length out))
