-- What the parts of `member` answer, cited by their contracts.
--   is_at_base reading == the reading ended at the base
--   table_refusal      == the first of 6, 7 and 8 that applies: what `member_refusal` says behind the query's own refusals
-- Assumes nothing.
use Rattle.std.specs.Prelude.{Bool, false, not, List, ℕ, eqb, ltb, length}
use Rattle.std.proofs.Math.Option.{Option}
use Rattle.std.specs.declared.result.Result.{Result}
use Rattle.std.specs.declared.result.Result.TheVariants.{Ok, Err}
use Rattle.theory.specs.Refusals.{Refusal as FirstCause, or_else, refused_if}
use Rattle.theory.specs.TableRefusals.{is_lent, cell_refusal}
use Rattle.members.specs.declared.Stop.{Stop}

abbrev pub is_at_base : Result ℕ Stop → Bool
is_at_base (Ok v) = eqb v 0
is_at_base (Err s) = false

unfoldable pub table_refusal : ℕ → ℕ → List ℕ → ℕ → ℕ → Option FirstCause
table_refusal n N t needed room =
    or_else (refused_if (not (is_lent n N (length t))) 6 0)
    (or_else (refused_if (ltb room needed) 7 needed) (cell_refusal n N t))
