-- The refusals of functions that take a lent table (document 01's table of refusals and its order), for one table and for two.
--   Cause8 n N t p     <-> the table is not canonical, and p is its lowest faulty cell
--   CheckCause, MemberCause, EqualCause == the causes of `check`, `member` and `equal`, by number
--   check_refusal, member_refusal, equal_refusal == the first of them, computed (`proofs/TableRefusalLaws` proves it to be `First`)
-- N is V, t the lent cells, all of them: those behind N × 2n count for nothing. A query is a text without line ends; `room` is the number of work
-- cells. Of two tables that meet one place in the order the first one's refusal is given. Assumes nothing.
use Rattle.std.specs.Prelude.{◌≡◌, ◌⊎◌, Bool, false, not, ◌&&◌, List, ℕ, ◌+◌, ◌*◌, eqb, ltb, leb, length}
use Rattle.std.proofs.Math.Option.{Option, none, some}
use Rattle.theory.specs.Letters.{usual}
use Rattle.theory.specs.Refusals.{
  Refusal,
  point_limit,
  Cause1,
  Cause6Lent,
  CauseShort,
  Only,
  Join,
  TextCause,
  is_alphabet,
  or_else,
  refused_if,
  text_refusal,
}
use Rattle.theory.specs.Tables.{cell}
use Rattle.theory.specs.Canonical.{LowestCell, faulty_cell}

abbrev pub Cause8 : ℕ → ℕ → List ℕ → ℕ → Type 0
Cause8 n N t p = (v : ℕ) × (y : ℕ) × LowestCell n N t v y × (p ≡ v * (2 * n) + y)

abbrev pub CheckCause : ℕ → ℕ → List ℕ → ℕ → ℕ → Type 0
CheckCause n N t = Join (Only 1 (Cause1 n)) (Join (Only 6 (Cause6Lent n N (length t))) (Only 8 (Cause8 n N t)))

abbrev pub MemberCause : ℕ → ℕ → List ℕ → List ℕ → ℕ → ℕ → ℕ → Type 0
MemberCause n N t query room =
    Join (TextCause n false query)
    (Join (Only 6 (Cause6Lent n N (length t)))
    (Join (Only 7 (CauseShort (length query) room)) (Only 8 (Cause8 n N t))))

-- the second's n is not the first's
abbrev pub OtherAlphabet : ℕ → ℕ → ℕ → Type 0
OtherAlphabet n m p = (p ≡ 0) × (m ≡ n → ⊥)

-- the first's cell, or the second's where the first has none
abbrev pub FirstOfTwo : (ℕ → Type 0) → (ℕ → Type 0) → ℕ → Type 0
FirstOfTwo A B p = A p ⊎ (((q : ℕ) → A q → ⊥) × B p)

abbrev pub EqualCause : ℕ → ℕ → List ℕ → ℕ → ℕ → List ℕ → ℕ → ℕ → Type 0
EqualCause n N t m M s =
    Join (Only 1 (λ p. Cause1 n p ⊎ OtherAlphabet n m p))
    (Join (Only 6 (λ p. Cause6Lent n N (length t) p ⊎ Cause6Lent m M (length s) p))
    (Only 8 (FirstOfTwo (Cause8 n N t) (Cause8 m M s))))

-- N is 1 to 1,048,577 and the table has its N × 2n cells
unfoldable pub is_lent : ℕ → ℕ → ℕ → Bool
is_lent n N cells = not (eqb N 0) && (leb N point_limit && leb (N * (2 * n)) cells)

-- 8 at a faulty cell
abbrev pub at_cell : Option ℕ → Option Refusal
at_cell none = none
at_cell (some p) = some (record { number = 8; place = p })

unfoldable pub cell_refusal : ℕ → ℕ → List ℕ → Option Refusal
cell_refusal n N t = at_cell (faulty_cell N (usual n) (cell n N t))

unfoldable pub check_refusal : ℕ → ℕ → List ℕ → Option Refusal
check_refusal n N t =
    or_else (refused_if (not (is_alphabet n)) 1 0)
    (or_else (refused_if (not (is_lent n N (length t))) 6 0) (cell_refusal n N t))

unfoldable pub member_refusal : ℕ → ℕ → List ℕ → List ℕ → ℕ → Option Refusal
member_refusal n N t query room =
    or_else (text_refusal n false query)
    (or_else (refused_if (not (is_lent n N (length t))) 6 0)
    (or_else (refused_if (ltb room (length query)) 7 (length query)) (cell_refusal n N t)))

unfoldable pub equal_refusal : ℕ → ℕ → List ℕ → ℕ → ℕ → List ℕ → Option Refusal
equal_refusal n N t m M s =
    or_else (refused_if (not (is_alphabet n && eqb m n)) 1 0)
    (or_else (refused_if (not (is_lent n N (length t) && is_lent m M (length s))) 6 0)
    (or_else (cell_refusal n N t) (cell_refusal m M s)))
