-- A letter stands where one is to come (PutTurn): the run was read through.
-- Assumes nothing.
use mathlib.Core.Path.{refl}
use native.Mathlib.Omega.{arith}
use Rattle.theory.proofs.RefusalLaws.{alphabet_in}
use Rattle.list_files.proofs.PutTurn.{letters_some, letters_value, letters_turn, letters_done}
use Rattle.list_files.proofs.put_letters.Goals as goal

pub returns-in_default : goal.returns-in_default
returns-in_default c = absurd (letters_some c.loop-i.invariant c.loop-i-test.true c.in_default.ensures.number.1)

pub byte_of-requires : goal.byte_of-requires
byte_of-requires c =
    omega (arith, letters_value c.loop-i.invariant c.loop-i-test.true c.in-Ok.number c.in-Ok.ensures.number, (alphabet_in _ c.requires.0).1)

pub loop-i-preserved : goal.loop-i-preserved
loop-i-preserved c = letters_turn c.loop-i.invariant c.loop-i-test.true c.in-Ok.number c.in-Ok.ensures.number c.byte_of.ensures.byte

pub returns : goal.returns
returns c = record { put = letters_done c.loop-i.invariant c.requires.1 c.requires.3 c.loop-i-test.false refl refl }
