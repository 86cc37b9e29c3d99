use mathlib.Core.Path.{refl}
use native.Mathlib.Omega.{arith}
use Rattle.lists.proofs.CountTurn.{next_further}
use Rattle.lists.proofs.StartTurn.{head_room, head_turn, head_small, head_done}
use Rattle.lists.proofs.start_size.Goals as goal

pub reduce-word-requires : goal.reduce-word-requires
reduce-word-requires c = head_room c.loop-at.invariant

pub overflow_add-points : goal.overflow_add-points
overflow_add-points c = let s = head_small (head_turn c.loop-at.invariant c.loop-at-test.true c.reduce-word.ensures.reduced c.reduce-word.auto.work c.new_points-points.ensures.new refl) in omega (arith, s.0)

pub overflow_add-edges : goal.overflow_add-edges
overflow_add-edges c = let s = head_small (head_turn c.loop-at.invariant c.loop-at-test.true c.reduce-word.ensures.reduced c.reduce-word.auto.work c.new_points-points.ensures.new refl) in omega (arith, s.1)

pub loop-at-smaller : goal.loop-at-smaller
loop-at-smaller c = next_further _ _ _ c.loop-at-test.true c.next_start-at.ensures.next

pub loop-at-preserved : goal.loop-at-preserved
loop-at-preserved c = head_turn c.loop-at.invariant c.loop-at-test.true c.reduce-word.ensures.reduced c.reduce-word.auto.work c.new_points-points.ensures.new c.next_start-at.ensures.next

pub returns : goal.returns
returns c = record { size = head_done c.loop-at.invariant c.loop-at-test.false c.letters_in.ensures.letters c.fill.ensures.filled }
