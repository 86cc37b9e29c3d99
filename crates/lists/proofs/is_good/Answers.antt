-- `lists::is_good` meets its contract: a list is good where its scan says so (`ScanTurn`).
-- Assumes nothing.
use mathlib.Core.Path.{◌∙◌, ap}
use Rattle.std.specs.Result.{is_ok}
use Rattle.lists.proofs.ScanTurn.{good_if}
use Rattle.lists.proofs.is_good.Goals as goal

pub returns : goal.returns
returns c = record { good = c.is_ok.ensures.value ∙ ap is_ok c.scan.ensures.first ∙ good_if c.args.n c.args.list.now }
