-- `inputs::parse` meets its contract: the places of the three runs of lines decide (`ParseLaws`).
-- Assumes nothing.
use native.Mathlib.Omega.{arith}
use Rattle.std.proofs.lemmas.Result.{err_from_is_err_and}
use Rattle.inputs.proofs.ParseLaws.{first_inside, queries_inside, parse_bad, parse_refused, parse_accepted}
use Rattle.inputs.proofs.parse.Goals as goal

pub run_end-queries-requires : goal.run_end-queries-requires
run_end-queries-requires c = first_inside _ c.next_start-first.ensures.next

pub run_end-requires : goal.run_end-requires
run_end-requires c = queries_inside _ c.next_start-first.ensures.next c.run_end-queries.ensures.end

pub returns-then-run_end-input : goal.returns-then-run_end-input
returns-then-run_end-input c = record { parsed = parse_bad _ c.next_start-first.ensures.next c.run_end-queries.ensures.end c.run_end.ensures.end (omega (arith, c.if-run_end-input.true)) }

pub returns-in_err-n : goal.returns-in_err-n
returns-in_err-n c =
    let p = err_from_is_err_and c.from_residual.result c.from_residual.ensures.1 in
    record {
      parsed =
          rw (p.1, p.2)
          (parse_refused _ c.next_start-first.ensures.next c.run_end-queries.ensures.end c.run_end.ensures.end (omega (arith, c.if-run_end-input.false)) c.in_err-n.ensures.number);
    }

pub gather-list-requires : goal.gather-list-requires
gather-list-requires c = (first_inside _ c.next_start-first.ensures.next, c.run_end-queries.ensures.end)

pub returns : goal.returns
returns c = record { parsed = parse_accepted _ c.next_start-first.ensures.next c.run_end-queries.ensures.end c.run_end.ensures.end (omega (arith, c.if-run_end-input.false)) c.in_ok-n.ensures.number c.gather-list.ensures.size c.gather-list.ensures.text }
