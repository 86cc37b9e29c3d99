-- The refusals of a list and a query in one call (document 01's table of refusals and its order), cited by `ask`.
--   asked_work list query == the work cells needed: the greater of the list's 8 × (L + 1) and the query's written length
--   ByteCause            == the causes 3 and 4 of one text
--   OfTwo A B            == the first's causes, or the second's where the first has none
--   AskCause             == the causes of `ask`, by number
--   ask_refusal           == the first of them, computed (`proofs/CauseLaws` proves it to be `First`)
-- cells and room are the numbers of cells lent. Assumes nothing.
use Rattle.std.specs.Prelude.{◌⊎◌, Bool, true, false, not, ◌||◌, List, ℕ, ◌*◌, max, ltb, length}
use Rattle.std.proofs.Math.Option.{Option}
use Rattle.theory.specs.Refusals.{
  Refusal,
  text_limit,
  Cause1,
  Cause2,
  Cause3,
  Cause4,
  Cause5,
  Cause6,
  CauseShort,
  Only,
  Join,
  is_alphabet,
  bytes_refusal,
  is_unended,
  or_else,
  refused_if,
}
use Rattle.folds.specs.Causes.{rows_of, work_of}

abbrev pub asked_work : List ℕ → List ℕ → ℕ
asked_work list query = max (work_of list) (length query)

abbrev pub ByteCause : ℕ → Bool → List ℕ → ℕ → ℕ → Type 0
ByteCause n lines text = Join (Only 3 (Cause3 lines text)) (Only 4 (Cause4 n text))

abbrev pub OfTwo : (ℕ → ℕ → Type 0) → (ℕ → ℕ → Type 0) → ℕ → ℕ → Type 0
OfTwo A B k p = A k p ⊎ (((l q : ℕ) → A l q → ⊥) × B k p)

-- of the two texts: 1, 2, 3/4, 5
abbrev pub TextsCause : ℕ → List ℕ → List ℕ → ℕ → ℕ → Type 0
TextsCause n list query =
    Join (Only 1 (Cause1 n))
    (Join (Only 2 (λ p. Cause2 list p ⊎ Cause2 query p))
    (Join (OfTwo (ByteCause n true list) (ByteCause n false query)) (Only 5 (Cause5 list))))

-- and of the cells lent: 6, 7
abbrev pub AskCause : ℕ → List ℕ → List ℕ → ℕ → ℕ → ℕ → ℕ → Type 0
AskCause n list query cells room =
    Join (TextsCause n list query)
    (Join (Only 6 (Cause6 n (rows_of list) cells)) (Only 7 (CauseShort (asked_work list query) room)))

unfoldable pub texts_refusal : ℕ → List ℕ → List ℕ → Option Refusal
texts_refusal n list query =
    or_else (refused_if (not (is_alphabet n)) 1 0)
    (or_else (refused_if (ltb text_limit (length list) || ltb text_limit (length query)) 2 0)
    (or_else (or_else (bytes_refusal n true 0 list) (bytes_refusal n false 0 query)) (refused_if (is_unended list) 5 (length list))))

unfoldable pub ask_refusal : ℕ → List ℕ → List ℕ → ℕ → ℕ → Option Refusal
ask_refusal n list query cells room =
    or_else (texts_refusal n list query)
    (or_else (refused_if (ltb cells (rows_of list * (2 * n))) 6 0)
    (refused_if (ltb room (asked_work list query)) 7 (asked_work list query)))
