-- `normals::passes` meets its contract. Absent at the base, back at the base, or asked (`BaseTurn`).
-- Assumes nothing.
use mathlib.Core.Path.{refl}
use Rattle.tables.proofs.LentLaws.{sound, sound_setting}
use Rattle.normals.proofs.BaseTurn.{passes_base_lem}
use Rattle.normals.proofs.passes.Goals as goal

pub returns-then-p-eq0 : goal.returns-then-p-eq0
returns-then-p-eq0 c = record { passes = passes_base_lem _ _ _ _ c.cell_at-p.ensures.cell (sound_setting (sound c.args.t.now)) c.if-p-eq0.true; cells = refl }
