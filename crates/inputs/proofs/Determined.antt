-- The public contracts of this crate fix their outcome.
--   parse_determined : two outcomes that meet the contract of `parse` are equal, the answer and every byte
-- `query_at` is an equation. Assumes nothing.
use mathlib.Core.Path.{◌≡◌, sym, ◌∙◌, ap}
use mathlib.Core.List.{List}
use Prim.Native.Nat.{ℕ}
use Rattle.std.proofs.Common.{Result}
use Rattle.inputs.specs.Parsed.{bytes_after, ParsedInto}
use Rattle.inputs.specs.declared.Accepted.{Accepted}
use Rattle.inputs.specs.declared.InputError.{InputError}

pub parse_determined : (input : List ℕ) (r s : Result Accepted InputError) (a b : List ℕ) → ParsedInto input r a → ParsedInto input s b → (r ≡ s) × (a ≡ b)
parse_determined input r s a b h k = (same, h.bytes ∙ ap (λ x. bytes_after x input) same ∙ sym k.bytes)
  where
    same : r ≡ s
    same = h.answer ∙ sym k.answer
