-- The refusals of folding (document 01's table of refusals and its order: 1, 2, 3/4, 5, 6, 7), cited by `fold`.
--   rows_of list  == L + 1: the rows of room that a list needs
--   work_of list  == 8 × (L + 1): the work cells that it needs
--   FoldCause    == the causes of `fold`, by number
--   fold_refusal  == the first of them, computed (`proofs/CauseLaws` proves it to be `First`)
-- cells and room are the numbers of cells lent. Assumes nothing.
use Rattle.std.specs.Prelude.{true, List, ℕ, ◌+◌, ◌*◌, ltb}
use Rattle.std.proofs.Math.Option.{Option}
use Rattle.theory.specs.Letters.{letters_in}
use Rattle.theory.specs.Refusals.{Refusal, Cause6, CauseShort, Only, Join, TextCause, or_else, refused_if, text_refusal}

abbrev pub rows_of : List ℕ → ℕ
rows_of list = letters_in list + 1

abbrev pub work_of : List ℕ → ℕ
work_of list = 8 * rows_of list

abbrev pub FoldCause : ℕ → List ℕ → ℕ → ℕ → ℕ → ℕ → Type 0
FoldCause n list cells room =
    Join (TextCause n true list) (Join (Only 6 (Cause6 n (rows_of list) cells)) (Only 7 (CauseShort (work_of list) room)))

-- 6 and 7, of a list that is fine
unfoldable pub lent_refusal : ℕ → List ℕ → ℕ → ℕ → Option Refusal
lent_refusal n list cells room =
    or_else (refused_if (ltb cells (rows_of list * (2 * n))) 6 0) (refused_if (ltb room (work_of list)) 7 (work_of list))

unfoldable pub fold_refusal : ℕ → List ℕ → ℕ → ℕ → Option Refusal
fold_refusal n list cells room = or_else (text_refusal n true list) (lent_refusal n list cells room)
