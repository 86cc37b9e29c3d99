-- The public contracts of this crate fix their outcome.
--   member_determined : two outcomes of `member` that conform on one input are equal, answer and cells
--   query_determined  : so are two answers of `check_query`
-- `read` and `is_at_base` are equations. Assumes nothing.
use mathlib.Core.Path.{◌≡◌, sym, ◌∙◌}
use mathlib.Core.Bool.{Bool}
use mathlib.Core.List.{List}
use Prim.Native.Nat.{ℕ}
use Rattle.std.specs.declared.result.Result.{Result}
use Rattle.theory.specs.TableRefusals.{member_refusal}
use Rattle.tables.specs.declared.Table.{Table}
use Rattle.tables.specs.declared.Sound.{Sound}
use Rattle.tables.proofs.Determined.{HandsOn, handed_on_determined}
use Rattle.members.specs.Members.{MemberOutcome}
use Rattle.refusals.specs.declared.Refusal.{Refusal}

pub member_determined : (n N : ℕ) (t query work : List ℕ) (r s : Result Bool Refusal) (after cells : List ℕ)
    → MemberOutcome n N t query work r after → MemberOutcome n N t query work s cells → (r ≡ s) × (after ≡ cells)
member_determined n N t query work r s after cells h k = (h.answer ∙ sym k.answer, h.cells ∙ sym k.cells)

pub query_determined : (t : Table) (query : List ℕ) (room : ℕ) (r s : Result Sound Refusal)
    → HandsOn t.n t.points t.cells (member_refusal t.n t.points t.cells.now query room) r
    → HandsOn t.n t.points t.cells (member_refusal t.n t.points t.cells.now query room) s → r ≡ s
query_determined t query room = handed_on_determined t.n t.points t.cells (member_refusal t.n t.points t.cells.now query room)
