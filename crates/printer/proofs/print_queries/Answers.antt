-- A query stands inside the input and behind the one before it (`Queries`).
-- Assumes nothing.
use Rattle.std.proofs.Common.{sym, ◌∙◌, arith}
use Rattle.inputs.proofs.Queries.{query_fits}
use Rattle.printer.proofs.LentLaws.{queried_first, queried_turn, queried_ended}
use Rattle.printer.proofs.print_queries.Goals as goal

pub loop-query-init : goal.loop-query-init
loop-query-init c = queried_first _ _ _ _ _ _

pub overflow_add-end : goal.overflow_add-end
overflow_add-end c = omega (arith, (query_fits _ _ _ c.in-Some.ensures.query).0)

pub slice_bounds-print_query-end : goal.slice_bounds-print_query-end
slice_bounds-print_query-end c = omega (arith, (query_fits _ _ _ c.in-Some.ensures.query).0)

pub loop-query-smaller : goal.loop-query-smaller
loop-query-smaller c = let f = query_fits _ _ _ c.in-Some.ensures.query in omega (arith, f.1, f.2)

pub loop-query-preserved : goal.loop-query-preserved
loop-query-preserved c = queried_turn c.loop-query.invariant c.in-Some.ensures.query c.print_query.ensures.cells

pub returns : goal.returns
returns c = record { cells = queried_ended c.loop-query.invariant (sym c.in_default.is ∙ c.query_at.ensures.query) }
