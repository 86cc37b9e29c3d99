-- The class of a byte (document 01's refusal 3), cited by `class_of` alone: callers use its laws about letters.
--   class_of b == Lower g or Upper g for a letter of generator g, counted from 1; LineEnd for byte 10; else Other
-- Assumes nothing.
use Rattle.std.specs.Prelude.{ℕ, ◌-◌, cond, ◌&&◌, eqb, leb}
use Rattle.letters.specs.declared.Class.{Class}
use Rattle.letters.specs.declared.Class.TheVariants.{Lower, Upper, LineEnd, Other}

unfoldable pub class_of : ℕ → Class
class_of b =
    cond (leb 97 b && leb b 122) (Lower (b - 96))
    (cond (leb 65 b && leb b 90) (Upper (b - 64)) (cond (eqb b 10) LineEnd Other))
