-- `drains::turn` meets its contract (`DrainTurn`).
-- Assumes nothing.
use Rattle.drains.proofs.DrainTurn.{last_inside, off_made, off_hand, turn_left}
use native.Mathlib.Omega.{arith}
use mathlib.Core.Path.{refl}
use Rattle.drains.proofs.turn.Goals as goal

pub overflow_add-v : goal.overflow_add-v
overflow_add-v c = record { fits = omega (arith, last_inside c.requires.fit c.requires.count_nonzero) }

pub offset_bounds-fold-room : goal.offset_bounds-fold-room
offset_bounds-fold-room c = record { fits = omega (arith, last_inside c.requires.fit c.requires.count_nonzero) }

pub bounds-fold-room : goal.bounds-fold-room
bounds-fold-room c = last_inside c.requires.fit c.requires.count_nonzero

pub find-u-requires-clause-v_lt_n : goal.find-u-requires-clause-v_lt_n
find-u-requires-clause-v_lt_n c = (off_made c.requires.fit c.requires.count_nonzero refl, omega arith)

pub clear_row-requires : goal.clear_row-requires
clear_row-requires c = off_hand c.requires.fit c.requires.count_nonzero refl c.find-u.ensures.found

pub returns-clause-turned : goal.returns-clause-turned
returns-clause-turned c = turn_left c.requires.fit c.requires.count_nonzero refl c.find-u.ensures.found c.clear_row.ensures.cleared
