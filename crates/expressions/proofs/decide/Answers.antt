-- `expressions::decide` meets its contract. The query is reduced, expressed, and the cells are cleared (`AnswerLaws`).
-- Assumes nothing.
use native.Mathlib.Omega.{arith}
use Rattle.members.proofs.AnswerLaws.{reduce_room, left_room}
use Rattle.expressions.proofs.AnswerLaws.{halves, expressed}
use Rattle.expressions.proofs.decide.Goals as goal

pub reduce-left-requires : goal.reduce-left-requires
reduce-left-requires c = reduce_room _ _ _ _ c.args.work.now c.requires

pub express_word-answer-requires : goal.express_word-answer-requires
express_word-answer-requires c =
    let h = left_room _ _ _ _ _ c.requires c.reduce-left.ensures.reduced c.reduce-left.auto.work in
    let k = halves _ _ _ _ _ c.requires in
    record { left_in_bounds = omega (arith, h.0, h.1); few = k.1; marks_in_bounds = omega (arith, h.1, k.0) }

pub fill-requires : goal.fill-requires
fill-requires c = let h = left_room _ _ _ _ _ c.requires c.reduce-left.ensures.reduced c.reduce-left.auto.work in omega (arith, h.1, c.express_word-answer.auto.out)

pub returns : goal.returns
returns c = record { outcome = expressed _ _ _ _ _ _ c.requires c.reduce-left.ensures.reduced (halves _ _ _ _ _ c.requires).0 c.express_word-answer.ensures.outcome c.fill.ensures.filled }
