-- Laws of `query_at` (`specs/Parsed`): a line as a query, by places.
--   query_end, query_inside, query_is : what `query_at` answers, from the places that it computes
-- Assumes nothing.
use mathlib.Core.Path.{◌≡◌, sym, ◌∙◌, ap}
use mathlib.Core.List.{List}
use Prim.Native.Nat.{ℕ, ◌+◌, ◌-◌, ◌<◌, ◌≤◌}
use native.Mathlib.Omega.{arith}
use lib.ListN.{length, take, drop}
use lib.Seq.{length-take-le, drop-drop}
use Rattle.std.proofs.Common.{Option, None, Some}
use Rattle.theory.specs.Letters.{word_length}
use Rattle.theory.proofs.TextLaws.{word_length_le}
use Rattle.lists.specs.Counts.{next_start}
use Rattle.inputs.specs.Inputs.{without_end}
use Rattle.inputs.specs.Parsed.{query_as, query_at}
use Rattle.inputs.specs.declared.Query.{Query}
use Rattle.inputs.proofs.LineLaws.{some_line, lines_end}
use Rattle.inputs.proofs.GatherTurn.{line_text}

pub query_end : (input : List ℕ) (at : ℕ) → length input ≤ at → query_at input at ≡ None
unfolding query_at
query_end input at h = ap (query_as at) (lines_end input at h)

pub query_inside : (input : List ℕ) (at : ℕ) {next : ℕ} → at < length input → next ≡ next_start input at → (at + 1 ≤ next) × (next ≤ length input)
query_inside input at {next} h n =
    let s = some_line input at h in
    (omega (arith, n, s.here.next, s.here.line.some), omega (arith, n, s.here.next, s.here.inside))

pub without_length : (l : List ℕ) → length (without_end l) ≡ word_length l
unfolding without_end
without_length l = length-take-le (word_length l) l (word_length_le l)

pub query_is : (input : List ℕ) (at : ℕ) {next size : ℕ} → at < length input → next ≡ next_start input at → size ≡ word_length (take (next - (at + 1)) (drop (at + 1) input))
    → ◌≡◌ {A = Option Query} (Some (record { start = at + 1; size = size; next = next })) (query_at input at)
unfolding query_at
query_is input at {next} {size} h n w =
    let s = some_line input at h in
    let l = s.line in
    let k = s.here in
    let is : next ≡ at + length l = n ∙ sym k.next in
    let less : next - (at + 1) ≡ length l - 1 = omega (arith, is) in
    let text : take (next - (at + 1)) (drop (at + 1) input) ≡ drop 1 l =
    ap (λ j. take j (drop (at + 1) input)) less ∙ ap (take (length l - 1)) (sym (drop-drop 1 at input)) ∙ line_text l (drop at input) k.line.some k.line.starts in
    ap (λ j. asked j next) (w ∙ ap word_length text ∙ sym (without_length (drop 1 l)))
    ∙ ap (λ j. asked (length (without_end (drop 1 l))) j) is
    ∙ sym (ap (query_as at) k.is)
  where
    asked : ℕ → ℕ → Option Query
    asked j k = Some (record { start = at + 1; size = j; next = k })
