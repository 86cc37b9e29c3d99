-- `case_codes::cell` meets its contract. Each arm is the code that it tests.
-- Assumes nothing.
use Rattle.std.proofs.Common.{arith}
use Rattle.std.proofs.lemmas.Grind.{common_steps}
use Rattle.case_codes.specs.Codes.{cell_of}
use Rattle.case_codes.proofs.cell.Goals as goal

pub returns-in-254 : goal.returns-in-254
unfolding cell_of
returns-in-254 c = grind (arith, common_steps)

pub returns-in-255 : goal.returns-in-255
unfolding cell_of
returns-in-255 c = grind (arith, common_steps)

pub returns-in_default : goal.returns-in_default
unfolding cell_of
returns-in_default c = grind (arith, common_steps)
