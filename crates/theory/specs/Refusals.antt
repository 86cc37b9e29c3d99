-- The numbers of refusal (document 01's table), the causes of 1 to 9 and their order.
--   Refusal          == a number and a place
--   Cause1 .. Cause9 <-> that cause applies at place p, in the table's words
--   turn k           == where number k stands in the order: by number, 3 and 4 as one
--   First causes k p <-> cause k applies at p and no cause that stands before it applies anywhere
--   Only, Join       == the causes of a function, number by number
--   TextCause        == the causes of a list or query over n generators, by number
--   text_refusal      == the first of them, computed (`proofs/RefusalLaws` proves it to be `First`)
-- `lines` says whether line ends are allowed: true for a list, false for a query. Files have an order of their own (`Files`).
-- Assumes nothing.
use Rattle.std.specs.Prelude.{◌≡◌, ◌⊎◌, Bool, true, false, cond, not, ◌&&◌, List, [], ◌∷◌, ℕ, zero, suc, ◌-◌, ◌*◌, ◌≤◌, ◌<◌, eqb, ltb, leb, length, get_or}
use Rattle.std.proofs.Math.Option.{Option, none, some}
use Rattle.theory.specs.Letters.{letter_of, is_letter, line_end}

pub record Refusal : Type 0 where
  pub number : ℕ
  pub place : ℕ

abbrev pub text_limit : ℕ
text_limit = 1048576

abbrev pub point_limit : ℕ
point_limit = 1048577

-- n not 1 to 26
abbrev pub Cause1 : ℕ → ℕ → Type 0
Cause1 n p = (p ≡ 0) × ((1 ≤ n) × (n ≤ 26) → ⊥)

-- a list, query or list text over 1,048,576 bytes
abbrev pub Cause2 : List ℕ → ℕ → Type 0
Cause2 text p = (p ≡ 0) × (text_limit < length text)

-- the byte at p is not a letter (nor, where line ends are allowed, byte 10)
abbrev pub Cause3 : Bool → List ℕ → ℕ → Type 0
Cause3 lines text p =
    (p < length text) × (is_letter (get_or text p 0) ≡ false) × (lines ≡ true → get_or text p 0 ≡ line_end → ⊥)

-- the byte at p is a letter beyond n
abbrev pub Cause4 : ℕ → List ℕ → ℕ → Type 0
Cause4 n text p = (p < length text) × (is_letter (get_or text p 0) ≡ true) × (2 * n ≤ letter_of (get_or text p 0))

-- a non-empty list not ended by byte 10, at its length
abbrev pub Cause5 : List ℕ → ℕ → Type 0
Cause5 text p = (p ≡ length text) × (0 < length text) × (get_or text (length text - 1) 0 ≡ line_end → ⊥)

-- a table of fewer cells than rows × 2n
abbrev pub Cause6 : ℕ → ℕ → ℕ → ℕ → Type 0
Cause6 n rows cells p = (p ≡ 0) × (cells < rows * (2 * n))

-- of a lent table or a file: no point, more than 1,048,577 of them, or too few cells
abbrev pub Cause6Lent : ℕ → ℕ → ℕ → ℕ → Type 0
Cause6Lent n N cells p = (p ≡ 0) × ((N ≡ 0) ⊎ ((point_limit < N) ⊎ (cells < N * (2 * n))))

-- a buffer of fewer cells than are needed, placed at the number needed: 7 of work, 9 of output
abbrev pub CauseShort : ℕ → ℕ → ℕ → Type 0
CauseShort needed cells p = (p ≡ needed) × (cells < needed)

-- by number; 3 and 4 share a place in the order
abbrev pub turn : ℕ → ℕ
turn k = cond (eqb k 4) 3 k

-- number k at place p is given rather than number l at place q
abbrev pub Before : ℕ → ℕ → ℕ → ℕ → Type 0
Before k p l q = (turn k < turn l) ⊎ ((turn k ≡ turn l) × (p < q))

pub record First (causes : ℕ → ℕ → Type 0) (k p : ℕ) : Type 0 where
  pub applies : causes k p
  pub foremost : (l q : ℕ) → Before l q k p → causes l q → ⊥

-- the causes of one number
abbrev pub Only : ℕ → (ℕ → Type 0) → ℕ → ℕ → Type 0
Only number cause k p = (k ≡ number) × cause p

-- the causes of one kind and those of another
abbrev pub Join : (ℕ → ℕ → Type 0) → (ℕ → ℕ → Type 0) → ℕ → ℕ → Type 0
Join A B k p = A k p ⊎ B k p

-- a cause that applies only where line ends are allowed
abbrev pub InList : Bool → Type 0 → Type 0
InList true c = c
InList false c = ⊥

abbrev pub TextCause : ℕ → Bool → List ℕ → ℕ → ℕ → Type 0
TextCause n lines text zero p = ⊥
TextCause n lines text (suc zero) p = Cause1 n p
TextCause n lines text (suc (suc zero)) p = Cause2 text p
TextCause n lines text (suc (suc (suc zero))) p = Cause3 lines text p
TextCause n lines text (suc (suc (suc (suc zero)))) p = Cause4 n text p
TextCause n lines text (suc (suc (suc (suc (suc zero))))) p = InList lines (Cause5 text p)
TextCause n lines text (suc (suc (suc (suc (suc (suc k)))))) p = ⊥

-- n is 1 to 26
unfoldable pub is_alphabet : ℕ → Bool
is_alphabet n = leb 1 n && leb n 26

-- the number that a byte of a text draws, or 0: 4 for a letter beyond n, 3 for what is no letter
unfoldable pub byte_refusal : ℕ → Bool → ℕ → ℕ
byte_refusal n lines b = cond (is_letter b) (cond (ltb (letter_of b) (2 * n)) 0 4) (cond (lines && eqb b line_end) 0 3)

-- the first byte, counted from i, that draws a refusal
unfoldable pub bytes_refusal : ℕ → Bool → ℕ → List ℕ → Option Refusal
bytes_refusal n lines i [] = none
bytes_refusal n lines i (b ∷ bs) =
    cond (eqb (byte_refusal n lines b) 0) (bytes_refusal n lines (suc i) bs)
    (some (record { number = byte_refusal n lines b; place = i }))

-- a text that has bytes and does not end in byte 10
unfoldable pub is_unended : List ℕ → Bool
is_unended text = ltb 0 (length text) && not (eqb (get_or text (length text - 1) 0) line_end)

-- the first of two refusals that there is
abbrev pub or_else : Option Refusal → Option Refusal → Option Refusal
or_else none r = r
or_else (some q) r = some q

-- the refusal where the test holds
abbrev pub refused_if : Bool → ℕ → ℕ → Option Refusal
refused_if true k p = some (record { number = k; place = p })
refused_if false k p = none

unfoldable pub text_refusal : ℕ → Bool → List ℕ → Option Refusal
text_refusal n lines text =
    or_else (refused_if (not (is_alphabet n)) 1 0)
    (or_else (refused_if (ltb text_limit (length text)) 2 0)
    (or_else (bytes_refusal n lines 0 text) (refused_if (lines && is_unended text) 5 (length text))))
