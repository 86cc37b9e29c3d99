-- A refusal as code holds it, and answers that may be one.
--   number_of cause       == its number in document 01's table
--   cause_of k            == the cause of number k; no cause of a function has another than 1 to 12 (accords, `proofs/RefusedFirst`, and the `.._numbered` of `proofs/NumberLaws` and others)
--   refusal_at cause p    == the refusal for this cause at place p
--   given r               == the refusal r of theory's `Refusals`
--   unless o a            == the answer a where there is no refusal o, else that refusal
--   unless_short cause needed room == nothing to say where the room is what is needed or more, else the refusal, at what is needed
-- Assumes nothing.
use Rattle.std.proofs.Math.Option.{Option, none, some}
use Rattle.std.specs.Prelude.{ℕ, cond, eqb, ltb, ⊤}
use Rattle.std.specs.declared.result.Result.{Result}
use Rattle.std.specs.declared.result.Result.TheVariants.{Ok, Err}
use Rattle.theory.specs.Refusals.{Refusal as FirstCause}
use Rattle.refusals.specs.declared.Cause.{Cause}
use Rattle.refusals.specs.declared.Cause.TheVariants.{Alphabet, Long, NoLetter, Beyond, Unended, Table, Work, Faulty, Output, NoNumber, Kind, Behind}
use Rattle.refusals.specs.declared.Refusal.{Refusal}

abbrev pub number_of : Cause → ℕ
number_of Alphabet = 1
number_of Long = 2
number_of NoLetter = 3
number_of Beyond = 4
number_of Unended = 5
number_of Table = 6
number_of Work = 7
number_of Faulty = 8
number_of Output = 9
number_of NoNumber = 10
number_of Kind = 11
number_of Behind = 12

abbrev pub cause_of : ℕ → Cause
cause_of k =
    cond (eqb k 1) Alphabet
    (cond (eqb k 2) Long
    (cond (eqb k 3) NoLetter
    (cond (eqb k 4) Beyond
    (cond (eqb k 5) Unended
    (cond (eqb k 6) Table
    (cond (eqb k 7) Work (cond (eqb k 8) Faulty (cond (eqb k 9) Output (cond (eqb k 10) NoNumber (cond (eqb k 11) Kind Behind))))))))))

abbrev pub refusal_at : Cause → ℕ → Refusal
refusal_at cause p = record { cause = cause; place = p }

abbrev pub given : FirstCause → Refusal
given r = refusal_at (cause_of r.number) r.place

abbrev pub unless : {A : Type 0} → Option FirstCause → A → Result A Refusal
unless none a = Ok a
unless (some r) a = Err (given r)

abbrev pub unless_short : Cause → ℕ → ℕ → Result ⊤ Refusal
unless_short cause needed room = cond (ltb room needed) (Err (refusal_at cause needed)) (Ok tt)
