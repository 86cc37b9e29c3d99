-- What is said of normality (document 01: refusals 1, 6, 7, 8, or normal or not), cited by `normal`.
--   NormalCause n N t room   == the causes of `normal`, by number; normal_refusal == the first of them, computed
--   NormalOutcome           <-> the answer is that refusal, else whether document 01's rule holds (theory, `is_normal`); and the work cells are as they were if it is a refusal, else 4 × N of them 0
-- `room` is the number of work cells. Assumes nothing.
use Rattle.std.specs.Prelude.{◌≡◌, Bool, List, ℕ, ◌*◌, length}
use Rattle.std.specs.declared.result.Result.{Result}
use Rattle.std.proofs.Math.Option.{Option, none, some}
use Rattle.theory.specs.Letters.{usual}
use Rattle.theory.specs.Refusals.{Refusal as FirstCause, Cause1, Cause6Lent, CauseShort, Only, Join}
use Rattle.theory.specs.TableRefusals.{Cause8}
use Rattle.theory.specs.Tables.{cell}
use Rattle.theory.specs.Basis.{is_normal}
use Rattle.cells.specs.Filled.{filled}
use Rattle.refusals.specs.declared.Refusal.{Refusal}
use Rattle.refusals.specs.Given.{unless}
use Rattle.bases.specs.Bases.{early_refusal}

abbrev pub NormalCause : ℕ → ℕ → List ℕ → ℕ → ℕ → ℕ → Type 0
NormalCause n N t room =
    Join (Only 1 (Cause1 n))
    (Join (Only 6 (Cause6Lent n N (length t)))
    (Join (Only 7 (CauseShort (4 * N) room)) (Only 8 (Cause8 n N t))))

unfoldable pub normal_refusal : ℕ → ℕ → List ℕ → ℕ → Option FirstCause
normal_refusal n N t room = early_refusal n N t room none

abbrev pub work_for : ℕ → List ℕ → Option FirstCause → List ℕ
work_for N work none = filled (4 * N) 0 work
work_for N work (some r) = work

pub record NormalOutcome (n N : ℕ) (t work : List ℕ) (r : Result Bool Refusal) (after : List ℕ) : Type 0 where
  pub answer : r ≡ unless (normal_refusal n N t (length work)) (is_normal (cell n N t) N (usual n))
  pub cells : after ≡ work_for N work (normal_refusal n N t (length work))
