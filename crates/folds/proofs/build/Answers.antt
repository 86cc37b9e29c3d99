-- `folds::build` meets its contract (`BuildLaws`).
-- Assumes nothing.
use Rattle.folds.proofs.BuildLaws.{fill_asks, build_prepared, number_ready, number_roomed, built}
use native.Mathlib.Omega.{arith}
use Prim.Native.Nat.{◌+◌}
use mathlib.Core.Path.{ap}
use Rattle.folds.proofs.build.Goals as goal

pub overflow_mul-rows : goal.overflow_mul-rows
overflow_mul-rows c = record { fits = omega (arith, fill_asks c.requires (ap (λ k. k + 1) c.letters_in-letters.ensures.letters)) }

pub fill-requires : goal.fill-requires
fill-requires c = omega (arith, fill_asks c.requires (ap (λ k. k + 1) c.letters_in-letters.ensures.letters))

pub take_list-start-requires : goal.take_list-start-requires
take_list-start-requires c = build_prepared c.requires (ap (λ k. k + 1) c.letters_in-letters.ensures.letters) c.fill.ensures.filled c.fill-2.ensures.filled

pub number-points-requires : goal.number-points-requires
number-points-requires c = let e = ap (λ k. k + 1) c.letters_in-letters.ensures.letters in record { ready = number_ready c.requires e c.fill.ensures.filled c.fill-2.ensures.filled c.take_list-start.ensures.words; roomed = number_roomed c.requires e c.fill.ensures.filled c.fill-2.ensures.filled c.take_list-start.ensures.words; le_room = omega arith }

pub returns : goal.returns
returns c = record { built = built c.requires (ap (λ k. k + 1) c.letters_in-letters.ensures.letters) c.fill.ensures.filled c.fill-2.ensures.filled c.take_list-start.ensures.words c.number-points.ensures.numbered c.fill-3.ensures.filled }
