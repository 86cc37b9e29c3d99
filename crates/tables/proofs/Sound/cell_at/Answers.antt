-- `tables::Sound::cell_at` meets its contract. A cell of a canonical table is absent or a point.
-- Assumes nothing.
use mathlib.Core.Path.{sym}
use Rattle.tables.proofs.LentLaws.{sound}
use Rattle.tables.proofs.Sound.cell_at.Goals as goal

pub returns-clause-within : goal.returns-clause-within
returns-clause-within c m =
    let e = c.from.ensures in
    (sound c.args.self.now).canonical.within c.args.v c.args.y c.cell_at.result (sym (rw (e.0, e.1, e.2) at c.cell_at.ensures.cell), m)
