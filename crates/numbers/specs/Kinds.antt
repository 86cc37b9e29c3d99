-- The kinds of saved file (document 01, 'The saved file'), cited by those that save and load.
--   kind_number kind == the number that a file of this kind begins with
--   kind_for k       == the kind of number k, or refusal 11
--   KindGiven k r   <-> r is that
-- Assumes nothing.
use Rattle.std.specs.Prelude.{◌≡◌, cond, ℕ, eqb}
use Rattle.std.specs.declared.result.Result.{Result}
use Rattle.std.specs.declared.result.Result.TheVariants.{Ok, Err}
use Rattle.refusals.specs.declared.Cause.TheVariants.{Kind as KindCause}
use Rattle.refusals.specs.declared.Refusal.{Refusal}
use Rattle.refusals.specs.Given.{refusal_at}
use Rattle.numbers.specs.declared.Kind.{Kind}
use Rattle.numbers.specs.declared.Kind.TheVariants.{Table, List}

abbrev pub kind_number : Kind → ℕ
kind_number Table = 1
kind_number List = 2

abbrev pub kind_for : ℕ → Result Kind Refusal
kind_for k = cond (eqb k 1) (Ok Table) (cond (eqb k 2) (Ok List) (Err (refusal_at KindCause 0)))

abbrev pub KindGiven : ℕ → Result Kind Refusal → Type 0
KindGiven k r = r ≡ kind_for k
