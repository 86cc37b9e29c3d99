-- Laws of bytes written at a place (`specs/Splices`).
--   spliced_none   : no bytes change nothing
--   spliced_cons   : the first byte is set, the others are written behind it
--   spliced_append : some bytes, then others behind them
--   length_spliced : the length is kept
--   written_then   : what two writings, one behind the other, have written
-- Assumes nothing.
use mathlib.Core.Path.{◌≡◌, sym, ◌∙◌, ap}
use mathlib.Core.List.{List, [], ◌∷◌, ◌++◌, append_assoc}
use Prim.Native.Nat.{ℕ, suc, ◌+◌, ◌≤◌, ◌<◌}
use native.Mathlib.Omega.{arith}
use lib.ListN.{take-append-drop, length, take, drop, set, length-set, length-append}
use lib.Seq.{take-suc-set, drop-set-lt}
use Rattle.numbers.specs.Splices.{spliced, WrittenAt}

pub spliced_none : (at : ℕ) (out : List ℕ) → spliced at [] out ≡ out
unfolding spliced
spliced_none at out = ap (λ k. take at out ++ drop k out) is ∙ take-append-drop at out
  where
    is : at + 0 ≡ at
    is = omega arith

pub spliced_cons : (at b : ℕ) (bytes out : List ℕ) → at < length out → spliced (suc at) bytes (set out at b) ≡ spliced at (b ∷ bytes) out
unfolding spliced
spliced_cons at b bytes out h =
    ap (λ l. l ++ (bytes ++ drop (suc at + length bytes) (set out at b))) (take-suc-set out at b h)
    ∙ append_assoc (take at out) (b ∷ []) (bytes ++ drop (suc at + length bytes) (set out at b))
    ∙ ap (λ l. take at out ++ (b ∷ (bytes ++ l))) (drop-set-lt (suc at + length bytes) out at b (omega arith))
    ∙ ap (λ k. take at out ++ (b ∷ (bytes ++ drop k out))) is
  where
    is : suc at + length bytes ≡ at + length (b ∷ bytes)
    is = omega arith

pub length_spliced : (at : ℕ) (bytes out : List ℕ) → at + length bytes ≤ length out → length (spliced at bytes out) ≡ length out
length_spliced at [] out h = ap length (spliced_none at out)
length_spliced at (b ∷ bytes) out h =
    ap length (sym (spliced_cons at b bytes out (omega arith)))
    ∙ length_spliced (suc at) bytes (set out at b) (simp length-set (omega arith))
    ∙ length-set out at b

pub spliced_append : (at : ℕ) (front back out : List ℕ) → at + length front ≤ length out
    → spliced (at + length front) back (spliced at front out) ≡ spliced at (front ++ back) out
spliced_append at [] back out h = ap (λ k. spliced k back (spliced at [] out)) is ∙ ap (λ l. spliced at back l) (spliced_none at out)
  where
    is : at + 0 ≡ at
    is = omega arith
spliced_append at (a ∷ front) back out h =
    ap (λ l. spliced (at + length (a ∷ front)) back l) (sym (spliced_cons at a front out (omega arith)))
    ∙ ap (λ k. spliced k back (spliced (suc at) front (set out at a))) is
    ∙ spliced_append (suc at) front back (set out at a) (simp length-set (omega arith))
    ∙ spliced_cons at a (front ++ back) out (omega arith)
  where
    is : at + length (a ∷ front) ≡ suc at + length front
    is = omega arith

pub written_then : {at r s : ℕ} {front back out mid after : List ℕ} → at + length front ≤ length out
    → WrittenAt at front out r mid → WrittenAt r back mid s after → WrittenAt at (front ++ back) out s after
written_then {at} {r} {s} {front} {back} {out} {mid} {after} h a b =
    record {
      next = b.next ∙ (rw (length-append front back) (omega (arith, a.next)));
      cells = b.cells ∙ ap (λ k. spliced k back mid) a.next ∙ ap (λ l. spliced (at + length front) back l) a.cells ∙ spliced_append at front back out h;
    }
