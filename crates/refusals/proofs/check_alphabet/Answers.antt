-- `refusals::check_alphabet` meets its contract: n is in the alphabet's range or it is not.
-- Assumes nothing.
use mathlib.Core.Path.{ap}
use mathlib.Core.Bool.{not}
use mathlib.Core.Logic.{⊎_elim}
use native.Mathlib.Omega.{arith}
use Rattle.std.specs.declared.result.Result.TheVariants.{Err}
use Rattle.theory.specs.Refusals.{refused_if}
use Rattle.theory.proofs.RefusalLaws.{below_alphabet, in_alphabet, above_alphabet}
use Rattle.refusals.proofs.UnlessLaws.{ok_unless}
use Rattle.refusals.proofs.check_alphabet.Goals as goal

pub returns-then-n-lt1 : goal.returns-then-n-lt1
returns-then-n-lt1 c =
    let out = ⊎_elim (below_alphabet c.args.n) (λ b. above_alphabet c.args.n b.0 b.1) c.then-n-lt1.either in
    record { checked = rw out (ap Err c.refuse.ensures.made) }

pub returns : goal.returns
returns c =
    let fine = in_alphabet c.args.n (omega (arith, c.if-n-lt1.false)) (omega (arith, c.if-n-gt26.false)) in
    record { checked = ok_unless _ tt (ap (λ b. refused_if (not b) 1 0) fine) }
