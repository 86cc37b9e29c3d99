-- The iterator's contract says the byte that comes, and how the rest, its count and what may follow change; `Turn` says what they mean.
-- Assumes nothing.
use native.Mathlib.Omega.{arith}
use Rattle.std.proofs.lemmas.List.{take_rest}
use Rattle.numbers.proofs.ReadTurn.{turn_first, turn_small, turn_last, turn_next, turn_end}
use Rattle.numbers.proofs.find_number.Goals as goal

pub loop-i-init : goal.loop-i-init
loop-i-init c =
    rw (
      c.into_iter-i-iterator.ensures.into_iter_gives,
      c.enumerate-i-items.ensures.source,
      c.enumerate-i-items.ensures.count,
      c.take.ensures.source,
      c.take.ensures.count,
      c.iter.ensures.rest,
      take_rest c.args.file.now c.args.at,
    ) (turn_first c.args.file.now c.args.at c.requires)

pub returns-then-b-lt128 : goal.returns-then-b-lt128
returns-then-b-lt128 c =
    let next = c.in-Some.ensures.steps in
    let is = rw (c.from-b.ensures, next.1) at c.last_group.ensures.number in
    record { number = turn_last c.loop-i.invariant _ next.0.0 next.0.1 (omega arith) is }

pub overflow_mul-value : goal.overflow_mul-value
overflow_mul-value c =
    let next = c.in-Some.ensures.steps in
    rw c.from-b.ensures (record { fits = omega (arith, (turn_small c.loop-i.invariant _ next.0.0 next.0.1 (λ k. (c.type_inv.file k).fits)).2) })

pub overflow_add-value : goal.overflow_add-value
overflow_add-value c =
    let next = c.in-Some.ensures.steps in
    let small = turn_small c.loop-i.invariant _ next.0.0 next.0.1 (λ k. (c.type_inv.file k).fits) in
    rw c.from-b.ensures (record { fits = omega (arith, small.0, small.2) })

pub loop-i-preserved : goal.loop-i-preserved
loop-i-preserved c =
    let next = c.in-Some.ensures.steps in
    rw (c.from-b.ensures, next.2) (turn_next c.loop-i.invariant _ next.0.0 next.0.1 (omega arith) (λ k. (c.type_inv.file k).fits))

pub returns : goal.returns
returns c =
    let next = c.in-None.ensures.steps in
    record { number = turn_end c.loop-i.invariant (λ l. (next.0 l).0) }
