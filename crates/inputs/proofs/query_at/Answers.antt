-- `inputs::query_at` meets its contract (`QueryLaws`).
-- Assumes nothing.
use mathlib.Core.Path.{sym}
use native.Mathlib.Omega.{arith}
use Rattle.inputs.proofs.QueryLaws.{query_end, query_inside, query_is}
use Rattle.inputs.proofs.query_at.Goals as goal

pub returns-then-input-at : goal.returns-then-input-at
returns-then-input-at c = record { query = sym (query_end _ _ c.if-input-at.true) }

pub slice_bounds-word_length-count : goal.slice_bounds-word_length-count
slice_bounds-word_length-count c = let q = query_inside c.args.input.now c.args.at c.if-input-at.false c.next_start-next.ensures.next in omega (arith, q.0)

pub slice_bounds-word_length-start : goal.slice_bounds-word_length-start
slice_bounds-word_length-start c = let q = query_inside c.args.input.now c.args.at c.if-input-at.false c.next_start-next.ensures.next in omega (arith, q.0)

pub slice_bounds-word_length-end : goal.slice_bounds-word_length-end
slice_bounds-word_length-end c = let q = query_inside c.args.input.now c.args.at c.if-input-at.false c.next_start-next.ensures.next in omega (arith, q.1)

pub returns : goal.returns
returns c = record { query = query_is _ _ c.if-input-at.false c.next_start-next.ensures.next c.word_length-size.ensures.length }
