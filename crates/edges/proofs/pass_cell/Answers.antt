-- `edges::pass_cell` meets its contract. Each way out is a case of the sweep (`TallyLaws`).
-- Assumes nothing.
use Rattle.tables.proofs.LentLaws.{sound}
use Rattle.edges.proofs.TallyLaws.{pass_absent, pass_new, pass_capital, pass_path, pass_outside, tally_small}
use native.Mathlib.Omega.{arith}
use Rattle.edges.proofs.pass_cell.Goals as goal

pub returns-then-x : goal.returns-then-x
returns-then-x c = record { tally = pass_absent (sound c.args.t.now) _ _ c.requires.point c.requires.letter c.requires.tally c.cell_at-x.ensures.cell c.if-x.true }

pub returns-then-tally-x : goal.returns-then-tally-x
returns-then-tally-x c = record { tally = pass_new (sound c.args.t.now) _ _ c.requires.point c.requires.letter c.requires.tally c.cell_at-x.ensures.cell c.if-x.false c.if-tally-x.true }

pub returns-then-y-ne0 : goal.returns-then-y-ne0
returns-then-y-ne0 c = record { tally = pass_capital (sound c.args.t.now) _ _ c.requires.point c.requires.letter c.requires.tally c.cell_at-x.ensures.cell c.if-x.false c.if-tally-x.false c.if-y-ne0.true }

pub returns-then-place_back-first : goal.returns-then-place_back-first
returns-then-place_back-first c = record { tally = pass_path (sound c.args.t.now) _ _ c.requires.point c.requires.letter c.requires.tally c.cell_at-x.ensures.cell c.if-x.false c.if-tally-x.false c.place_back.ensures.back c.requires.first (omega (arith, c.if-place_back-first.true)) }

pub overflow_add-result : goal.overflow_add-result
overflow_add-result c = omega (arith, tally_small (sound c.args.t.now) c.requires.tally c.requires.point c.requires.letter)

pub returns : goal.returns
returns c = record { tally = pass_outside (sound c.args.t.now) _ _ c.requires.point c.requires.letter c.requires.tally c.cell_at-x.ensures.cell c.if-x.false c.if-tally-x.false c.place_back.ensures.back c.requires.first c.if-y-ne0.false (λ e. c.if-place_back-first.false (omega (arith, e))) }
