-- The kind (LoadLaws).
-- Assumes nothing.
use Rattle.std.proofs.lemmas.Result.{err_from_is_err_and}
use Rattle.loads.proofs.LoadLaws.{kind_missing, kind_other, kind_there}
use Rattle.loads.proofs.load.Goals as goal

pub returns-in_err-number : goal.returns-in_err-number
returns-in_err-number c =
    let p = err_from_is_err_and c.from_residual.result c.from_residual.ensures.1 in
    record { outcome = rw (p.1, p.2) (kind_missing _ _ _ c.in_err-number.ensures.number) }

pub returns-in_err-kind : goal.returns-in_err-kind
returns-in_err-kind c =
    let p = err_from_is_err_and c.from_residual-in_err-kind.result c.from_residual-in_err-kind.ensures.1 in
    record { outcome = rw (p.1, p.2) (kind_other _ _ _ c.in_ok-number.number c.in_ok-number.ensures.number c.in_err-kind.ensures) }

pub returns : goal.returns
returns c =
    record {
      outcome =
          kind_there _ _ _ c.in_ok-number.number c.in_ok-number.ensures.number c.in_ok-kind.kind c.in_ok-kind.ensures
          c.load_kind.ensures.outcome;
    }
