-- n, behind the kind (LoadLaws).
-- Assumes nothing.
use Rattle.std.proofs.lemmas.Result.{err_from_is_err_and}
use Rattle.refusals.proofs.StageLaws.{held}
use Rattle.loads.proofs.LoadLaws.{n_missing, n_beyond, n_there, next_inside}
use Rattle.loads.proofs.load_kind.Goals as goal

pub returns-in_err-n : goal.returns-in_err-n
returns-in_err-n c =
    let p = err_from_is_err_and c.from_residual.result c.from_residual.ensures.1 in
    record { outcome = rw (p.1, p.2) (n_missing _ _ _ _ _ c.in_err-n.ensures.number) }

pub returns-in_err-check_alphabet : goal.returns-in_err-check_alphabet
returns-in_err-check_alphabet c =
    let p = err_from_is_err_and c.from_residual-in_err-check_alphabet.result c.from_residual-in_err-check_alphabet.ensures.1 in
    record { outcome = rw (p.1, p.2) (n_beyond _ _ _ _ _ c.in_ok-n.n c.in_ok-n.ensures.number c.in_err-check_alphabet.ensures.checked) }

pub load_part-requires : goal.load_part-requires
load_part-requires c =
    (held _ 1 0 c.in_ok-check_alphabet.ensures.checked, next_inside _ _ c.in_ok-n.n c.in_ok-n.ensures.number c.requires)

pub returns : goal.returns
returns c =
    record {
      outcome =
          n_there _ _ _ _ _ c.in_ok-n.n c.in_ok-n.ensures.number (held _ 1 0 c.in_ok-check_alphabet.ensures.checked)
          c.load_part.ensures.outcome;
    }
