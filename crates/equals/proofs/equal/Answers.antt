-- `equals::equal` meets its contract. The two alphabets, the two sizes, and the cells of both, one after the other (`EqualLaws`).
-- Assumes nothing.
use mathlib.Core.Path.{◌≡◌, ◌∙◌, ap}
use Rattle.std.proofs.lemmas.Result.{err_from_is_err_and}
use Rattle.std.specs.declared.result.Result.TheVariants.{Ok, Err}
use Rattle.equals.specs.Equals.{is_same}
use Rattle.equals.proofs.EqualLaws.{alphabet_refused, other_refused, first_refused, second_refused, cell_refused, other_cell_refused, none_refused}
use Rattle.equals.proofs.equal.Goals as goal

pub returns-in_err-check_alphabet : goal.returns-in_err-check_alphabet
returns-in_err-check_alphabet c =
    let p = err_from_is_err_and c.from_residual.result c.from_residual.ensures.1 in
    record { outcome = rw (p.1, p.2) (alphabet_refused _ _ _ _ _ _ c.in_err-check_alphabet.ensures.checked) }

pub returns-then-b-a : goal.returns-then-b-a
returns-then-b-a c = record { outcome = ap Err c.refuse.ensures.made ∙ other_refused _ _ _ _ _ _ c.in_ok-check_alphabet.ensures.checked c.if-b-a.true }

pub returns-in_err-first : goal.returns-in_err-first
returns-in_err-first c =
    let p = err_from_is_err_and c.from_residual-in_err-first.result c.from_residual-in_err-first.ensures.1 in
    record { outcome = rw (p.1, p.2) (first_refused _ _ _ _ _ _ c.in_ok-check_alphabet.ensures.checked c.if-b-a.false c.in_err-first.ensures.tested) }

pub returns-in_err-second : goal.returns-in_err-second
returns-in_err-second c =
    let p = err_from_is_err_and c.from_residual-in_err-second.result c.from_residual-in_err-second.ensures.1 in
    record { outcome = rw (p.1, p.2) (second_refused _ _ _ _ _ _ c.in_ok-check_alphabet.ensures.checked c.if-b-a.false c.in_ok-first.ensures.tested c.in_err-second.ensures.tested) }

pub returns-in_err-checked : goal.returns-in_err-checked
returns-in_err-checked c =
    let p = err_from_is_err_and c.from_residual-in_err-checked.result c.from_residual-in_err-checked.ensures.1 in
    let e = c.in_ok-first.ensures.same in
    record { outcome = rw (p.1, p.2) (cell_refused _ _ _ _ _ _ c.in_ok-check_alphabet.ensures.checked c.if-b-a.false c.in_ok-first.ensures.tested c.in_ok-second.ensures.tested (rw (e.0, e.1, e.2) at c.in_err-checked.ensures.tested)) }

pub returns-in_err-checked-2 : goal.returns-in_err-checked-2
returns-in_err-checked-2 c =
    let p = err_from_is_err_and c.from_residual-in_err-checked-2.result c.from_residual-in_err-checked-2.ensures.1 in
    let e = c.in_ok-first.ensures.same in
    let f = c.in_ok-second.ensures.same in
    record { outcome = rw (p.1, p.2) (other_cell_refused _ _ _ _ _ _ c.in_ok-check_alphabet.ensures.checked c.if-b-a.false c.in_ok-first.ensures.tested c.in_ok-second.ensures.tested (rw (e.0, e.1, e.2) at c.in_ok-checked.ensures.tested) (rw (f.0, f.1, f.2) at c.in_err-checked-2.ensures.tested)) }

pub returns : goal.returns
returns c =
    let e = c.in_ok-first.ensures.same in
    let f = c.in_ok-second.ensures.same in
    let g = c.in_ok-checked.ensures.same in
    let h = c.in_ok-checked-2.ensures.same in
    let compared : c.compare.result ≡ is_same c.args.a.now.n c.args.a.now.points c.args.a.now.cells.now c.args.b.now.points c.args.b.now.cells.now =
    rw (g.0, g.1, g.2, h.1, h.2, e.0, e.1, e.2, f.1, f.2) at c.compare.ensures.same in
    record { outcome = ap Ok compared ∙ none_refused _ _ _ _ _ _ c.in_ok-check_alphabet.ensures.checked c.if-b-a.false c.in_ok-first.ensures.tested c.in_ok-second.ensures.tested (rw (e.0, e.1, e.2) at c.in_ok-checked.ensures.tested) (rw (f.0, f.1, f.2) at c.in_ok-checked-2.ensures.tested) }
