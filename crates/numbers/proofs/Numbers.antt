-- The file's numbers (document 01, 'The saved file').
--   number_at_one   : two numbers at one place are one
--   number_one      : two numbers with the same bytes at the start are one, and so are the bytes behind them
--   numbers_one     : two runs of as many numbers with the same bytes are one
--   read_determined : what `read_number` promises fixes its answer
--   numbers_hold    : 300 is AC 02, 65,536 is 80 80 04, and the ends of each length
-- Assumes nothing.
use mathlib.Core.Path.{◌≡◌, refl, sym, ◌∙◌, ap}
use mathlib.Core.Logic.{by_cases}
use mathlib.Core.List.{List, [], ◌∷◌, ◌++◌, map}
use Prim.Native.Nat.{ℕ, zero, suc, ◌+◌, ◌/◌, ◌%◌, ◌^◌, ◌≤◌, ◌<◌}
use native.Mathlib.Decide.{dec_lt}
use native.Mathlib.Nat.{pow-suc}
use native.Mathlib.Omega.{arith}
use lib.ListN.{length, get_or, drop}
use Rattle.theory.specs.Files.{number_limit, groups, number_bytes, numbers_bytes, NumberAt}
use Rattle.std.specs.declared.result.Result.{Result}
use Rattle.std.specs.declared.result.Result.TheVariants.{Ok, Err}
use Rattle.refusals.specs.declared.Refusal.{Refusal}
use Rattle.numbers.specs.declared.Number.{Number}
use Rattle.numbers.specs.Reads.{ReadAt}
use Rattle.numbers.proofs.NumberLaws.{groups_last, groups_next}

-- ── Prefix-free ──

-- the first byte, and what is behind it
cons_one : {a b : ℕ} {l m : List ℕ} → a ∷ l ≡ b ∷ m → (a ≡ b) × (l ≡ m)
cons_one e = (ap (λ l. get_or l 0 0) e, ap (λ l. drop 1 l) e)

-- two numbers of one group, two of more, and no number of either kind beside one of the other
module _ (d x y : ℕ) (l m : List ℕ) (e : groups (suc d) x ++ l ≡ groups (suc d) y ++ m) where
  small_small : x < 128 → y < 128 → (x ≡ y) × (l ≡ m)
  small_small p q = cons_one (sym (ap (λ k. k ++ l) (groups_last d x p)) ∙ e ∙ ap (λ k. k ++ m) (groups_last d y q))

  small_more : x < 128 → 128 ≤ y → ⊥
  small_more p q =
      omega (arith, (cons_one (sym (ap (λ k. k ++ l) (groups_last d x p)) ∙ e ∙ ap (λ k. k ++ m) (groups_next d y q))).0)

  more_small : 128 ≤ x → y < 128 → ⊥
  more_small p q =
      omega (arith, (cons_one (sym (ap (λ k. k ++ l) (groups_next d x p)) ∙ e ∙ ap (λ k. k ++ m) (groups_last d y q))).0)

  more_more : 128 ≤ x → 128 ≤ y → (x % 128 + 128 ≡ y % 128 + 128) × (groups d (x / 128) ++ l ≡ groups d (y / 128) ++ m)
  more_more p q = cons_one (sym (ap (λ k. k ++ l) (groups_next d x p)) ∙ e ∙ ap (λ k. k ++ m) (groups_next d y q))

groups_one : (d x y : ℕ) (l m : List ℕ) → x < 128 ^ suc d → y < 128 ^ suc d → groups (suc d) x ++ l ≡ groups (suc d) y ++ m → (x ≡ y) × (l ≡ m)
groups_one zero x y l m a b e = small_small 0 x y l m e (omega arith) (omega arith)
groups_one (suc d) x y l m a b e =
    by_cases (dec_lt x 128)
    (λ p. by_cases (dec_lt y 128) (λ q. small_small (suc d) x y l m e p q)
    (λ q. absurd (small_more (suc d) x y l m e p (omega arith))))
    (λ p. by_cases (dec_lt y 128) (λ q. absurd (more_small (suc d) x y l m e (omega arith) q))
    (λ q. let f = more_more (suc d) x y l m e (omega arith) (omega arith) in
    let r = groups_one d (x / 128) (y / 128) l m (omega (arith, pow-suc 128 (suc d))) (omega (arith, pow-suc 128 (suc d))) f.1 in
    (omega (arith, f.0, r.0), r.1)))

pub number_one : (x y : ℕ) (l m : List ℕ) → x ≤ number_limit → y ≤ number_limit → number_bytes x ++ l ≡ number_bytes y ++ m → (x ≡ y) × (l ≡ m)
unfolding number_bytes
number_one x y l m a b e = groups_one 4 x y l m (omega arith) (omega arith) e

pub number_at_one : {file : List ℕ} {p x y : ℕ} → NumberAt file p x → NumberAt file p y → x ≡ y
number_at_one {file} {p} {x} {y} a b = (number_one x y a.rest b.rest a.fits b.fits (sym a.written ∙ b.written)).0

-- every number of a list is at most the limit
abbrev pub AllFit : List ℕ → Type 0
AllFit [] = Unit {0}
AllFit (x ∷ xs) = (x ≤ number_limit) × AllFit xs

pub numbers_one : (xs ys : List ℕ) → AllFit xs → AllFit ys → length xs ≡ length ys → numbers_bytes xs ≡ numbers_bytes ys → xs ≡ ys
unfolding numbers_bytes
numbers_one [] [] a b e f = refl
numbers_one [] (y ∷ ys) a b e f = absurd (omega (arith, e))
numbers_one (x ∷ xs) [] a b e f = absurd (omega (arith, e))
numbers_one (x ∷ xs) (y ∷ ys) a b e f =
    let h = number_one x y (numbers_bytes xs) (numbers_bytes ys) a.0 b.0 f in
    ap (λ z. z ∷ xs) h.0 ∙ ap (λ l. y ∷ l) (numbers_one xs ys a.1 b.1 (omega (arith, e)) h.1)

-- ── The contract ──

pub read_determined : (file : List ℕ) (p : ℕ) (r s : Result Number Refusal) → ReadAt file p r → ReadAt file p s → r ≡ s
read_determined file p (Ok r) (Ok s) a b =
    let e = number_at_one a.0 b.0 in
    ap Ok (same r s e (a.1 ∙ ap (λ z. p + length (number_bytes z)) e ∙ sym b.1))
  where
    same : (r s : Number) → r.value ≡ s.value → r.next ≡ s.next → r ≡ s
    same r s e f = ap (λ z. record { value = z; next = r.next }) e ∙ ap (λ z. record { value = s.value; next = z }) f
read_determined file p (Ok r) (Err s) a b = absurd (b.1 r.value a.0)
read_determined file p (Err r) (Ok s) a b = absurd (a.1 s.value b.0)
read_determined file p (Err r) (Err s) a b = ap Err (a.0 ∙ sym b.0)

-- ── By computation ──

pub numbers_hold : map number_bytes (0 ∷ 127 ∷ 128 ∷ 300 ∷ 16383 ∷ 16384 ∷ 65536 ∷ 4294967295 ∷ [])
    ≡ (0 ∷ []) ∷ (127 ∷ []) ∷ (128 ∷ 1 ∷ []) ∷ (172 ∷ 2 ∷ []) ∷ (255 ∷ 127 ∷ []) ∷ (128 ∷ 128 ∷ 1 ∷ []) ∷ (128 ∷ 128 ∷ 4 ∷ [])
    ∷ (255 ∷ 255 ∷ 255 ∷ 255 ∷ 15 ∷ []) ∷ []
unfolding number_bytes groups
numbers_hold = refl
