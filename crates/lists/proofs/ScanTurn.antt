-- The scans on plain values: what a byte draws, the bytes one after the other, and the stages of `scan`.
-- Assumes nothing.
use mathlib.Core.Path.{◌≡◌, refl, sym, ◌∙◌, ap}
use mathlib.Core.Bool.{Bool, true, false, not}
use mathlib.Core.Option.{Option, none, some}
use mathlib.Core.List.{List}
use Prim.Native.Nat.{ℕ, suc, ◌+◌, ◌≤◌, ◌<◌}
use native.Mathlib.Numerals.{add-one}
use lib.Dec.{eqb}
use lib.ListN.{length, get_or, drop, drop_of_length-le}
use lib.Seq.{drop-cons}
use borrow.Author.Tests.{eqb-true, eq-eqb, lt-ltb, le-ltb}
use Rattle.std.specs.Prelude.{⊤}
use Rattle.std.specs.Result.{is_ok}
use Rattle.std.specs.declared.option.Option.{Option as Maybe}
use Rattle.std.specs.declared.option.Option.TheVariants.{None, Some}
use Rattle.std.specs.declared.result.Result.{Result}
use Rattle.std.specs.declared.result.Result.TheVariants.{Ok, Err}
use Rattle.theory.specs.Refusals.{Refusal as FirstCause, text_limit, is_alphabet, byte_refusal, bytes_refusal, or_else, refused_if, text_refusal}
use Rattle.theory.proofs.WordLaws.{by_test}
use Rattle.theory.proofs.RefusalLaws.{bytes_pass, bytes_stop}
use Rattle.letters.specs.Class.{class_of}
use Rattle.letters.specs.declared.Class.{Class}
use Rattle.letters.proofs.ClassLaws.{drawn_by, told}
use Rattle.refusals.specs.Given.{cause_of, refusal_at, unless}
use Rattle.refusals.specs.declared.Cause.{Cause}
use Rattle.refusals.specs.declared.Cause.TheVariants.{Long}
use Rattle.refusals.specs.declared.Refusal.{Refusal}
use Rattle.refusals.proofs.UnlessLaws.{unless_ok, unless_err, err_unless}
use Rattle.lists.specs.Scans.{drawn_as, drawn, last_of}
use Rattle.lists.specs.Shorter.{is_none, is_good}

-- what a scan answers that refuses by o, or by nothing
abbrev pub answered : Option FirstCause → Result ⊤ Refusal
answered o = unless o tt

-- ── One byte ──

-- what its class says that it draws
pub drawn_told : (n : ℕ) (lines : Bool) (b : ℕ) {r k : Class} → b < 256 → r ≡ class_of b → r ≡ k → drawn_as (drawn_by n lines k) ≡ drawn n lines b
unfolding drawn
drawn_told n lines b s e m = sym (ap drawn_as (told n lines b s e m).draws)

-- what is said of a number of generators is said of the list's own, where that is the same number
pub over_own : (m n : ℕ) (lines : Bool) (b : ℕ) {r : Maybe Cause} → r ≡ drawn m lines b → m ≡ n → r ≡ drawn n lines b
over_own m n lines b h e = h ∙ ap (λ k. drawn k lines b) e

pub of_own : (m n : ℕ) {r : Result ⊤ Refusal}
    → r ≡ answered (refused_if (not (is_alphabet m)) 1 0) → m ≡ n → r ≡ answered (refused_if (not (is_alphabet n)) 1 0)
of_own m n h e = h ∙ ap (λ k. answered (refused_if (not (is_alphabet k)) 1 0)) e

drawn_none : (k : ℕ) → None ≡ drawn_as k → k ≡ 0
drawn_none k e = by_test (eqb k 0) (λ t. eqb-true k 0 t) (λ t. absurd (let z : None ≡ Some (cause_of k) = e ∙ rw t in cc))

drawn_some : (k : ℕ) {cause : Cause} → Some cause ≡ drawn_as k → (k ≡ 0 → ⊥) × (cause ≡ cause_of k)
drawn_some k {cause} e =
    by_test (eqb k 0) (λ t. absurd (let z : Some cause ≡ None = e ∙ rw t in cc))
    (λ t. let z : Some cause ≡ Some (cause_of k) = e ∙ rw t in (λ f. absurd (let y : true ≡ false = sym (eq-eqb k 0 f) ∙ t in cc), cc))

-- ── The bytes ──

module _ (n : ℕ) (lines : Bool) (text : List ℕ) (i : ℕ) (h : bytes_refusal n lines 0 text ≡ bytes_refusal n lines i (drop i text)) where
  -- i bytes draw nothing, and one more
  pub passed_turn : i < length text → None ≡ drawn n lines (get_or text i 0) → bytes_refusal n lines 0 text ≡ bytes_refusal n lines (i + 1) (drop (i + 1) text)
  unfolding drawn
  passed_turn l e =
      rw (add-one i)
      (h ∙ ap (bytes_refusal n lines i) (drop-cons text i 0 l) ∙ bytes_pass n lines i (get_or text i 0) (drop (suc i) text) (drawn_none (byte_refusal n lines (get_or text i 0)) e))

  -- a byte that draws is the answer
  pub passed_stop : {cause : Cause} → i < length text → Some cause ≡ drawn n lines (get_or text i 0) → Err (refusal_at cause i) ≡ answered (bytes_refusal n lines 0 text)
  unfolding drawn
  passed_stop {cause} l e =
      ap (λ k. Err (refusal_at k i)) d.1
      ∙ err_unless _ tt (h ∙ ap (bytes_refusal n lines i) (drop-cons text i 0 l) ∙ bytes_stop n lines i (get_or text i 0) (drop (suc i) text) d.0)
    where
      d : (byte_refusal n lines (get_or text i 0) ≡ 0 → ⊥) × (cause ≡ cause_of (byte_refusal n lines (get_or text i 0)))
      d = drawn_some (byte_refusal n lines (get_or text i 0)) e

  pub passed_end : length text ≤ i → Ok tt ≡ answered (bytes_refusal n lines 0 text)
  unfolding bytes_refusal
  passed_end l = sym (ap answered (h ∙ ap (bytes_refusal n lines i) (drop_of_length-le text l)))

-- ── The whole scan ──

-- the first of two refusals where there is one, and else the second
module _ (o p : Option FirstCause) where
  stopped : {r : Refusal} → Err r ≡ answered o → Err r ≡ answered (or_else o p)
  stopped {r} e = let c = unless_err o tt e in e ∙ rw c.1

  passed : Ok tt ≡ answered o → or_else o p ≡ p
  passed e = rw (unless_ok o tt e).0

module _ (n : ℕ) (lines : Bool) (text : List ℕ) where
  pub scan_alphabet : {r : Refusal} → Err r ≡ answered (refused_if (not (is_alphabet n)) 1 0) → Err r ≡ answered (text_refusal n lines text)
  unfolding text_refusal
  scan_alphabet e = stopped _ _ e

  module _ (a : Ok tt ≡ answered (refused_if (not (is_alphabet n)) 1 0)) where
    pub scan_long : text_limit < length text → Err (refusal_at Long 0) ≡ answered (text_refusal n lines text)
    unfolding text_refusal
    scan_long l = err_unless (text_refusal n lines text) tt {c = record { number = 2; place = 0 }} (passed _ _ a ∙ rw (lt-ltb text_limit (length text) l))

    -- alphabet and length are fine: the bytes decide, then the end
    bytes_decide : length text ≤ text_limit → text_refusal n lines text ≡ or_else (bytes_refusal n lines 0 text) (last_of lines text)
    unfolding text_refusal last_of
    bytes_decide l = passed _ _ a ∙ rw (le-ltb text_limit (length text) l)

    pub scan_byte : {r : Refusal} → length text ≤ text_limit → Err r ≡ answered (bytes_refusal n lines 0 text) → Err r ≡ answered (text_refusal n lines text)
    scan_byte l e = stopped _ _ e ∙ sym (ap answered (bytes_decide l))

    pub scan_last : length text ≤ text_limit → Ok tt ≡ answered (bytes_refusal n lines 0 text) → answered (last_of lines text) ≡ answered (text_refusal n lines text)
    scan_last l e = sym (ap answered (bytes_decide l ∙ passed _ _ e))

-- a list is good where its scan says so
pub good_if : (n : ℕ) (list : List ℕ) → is_ok (answered (text_refusal n true list)) ≡ is_good n list
unfolding is_good
good_if n list = go (text_refusal n true list)
  where
    go : (o : Option FirstCause) → is_ok (answered o) ≡ is_none o
    go none = refl
    go (some r) = refl
