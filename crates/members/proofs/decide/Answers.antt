-- `members::decide` meets its contract. The query is reduced, read, and the cells are cleared (`AnswerLaws`).
-- Assumes nothing.
use mathlib.Core.Path.{sym}
use native.Mathlib.Omega.{arith}
use lib.Seq.{length-take-le}
use Rattle.members.proofs.AnswerLaws.{reduce_room, left_room, decided}
use Rattle.members.proofs.decide.Goals as goal

pub reduce-left-requires : goal.reduce-left-requires
reduce-left-requires c = reduce_room _ _ _ _ c.args.work.now c.requires

pub slice_bounds-read-end : goal.slice_bounds-read-end
slice_bounds-read-end c = let h = left_room _ _ _ _ _ c.requires c.reduce-left.ensures.reduced c.reduce-left.auto.work in omega (arith, h.0, h.1)

pub slice_bounds-read-end-2 : goal.slice_bounds-read-end-2
slice_bounds-read-end-2 c =
    let h = left_room _ _ _ _ _ c.requires c.reduce-left.ensures.reduced c.reduce-left.auto.work in
    sym (length-take-le _ _ (omega (arith, h.0, h.1)))

pub fill-requires : goal.fill-requires
fill-requires c = let h = left_room _ _ _ _ _ c.requires c.reduce-left.ensures.reduced c.reduce-left.auto.work in omega (arith, h.1)

pub returns : goal.returns
returns c = record { outcome = decided _ _ _ _ _ c.requires c.reduce-left.ensures.reduced c.read-reading.ensures.reading c.fill.ensures.filled c.is_at_base.ensures.base }
