-- `bases::Pathed::write_line` meets its contract. The path, the letter, the way back and the line end (`ChainLaws`).
-- Assumes nothing.
use native.Mathlib.Omega.{arith}
use Rattle.bases.proofs.ChainLaws.{line_done}
use Rattle.bases.proofs.Pathed.write_line.Goals as goal

pub returns : goal.returns
returns c = record { line = line_done _ _ _ _ _ _ _ _ _ _ _ _ c.write_path.ensures.path (omega (arith, c.depth.ensures.depth)) c.byte_of.ensures.byte c.write_back-end.ensures.back c.write_back-end.ensures.end; end = omega (arith, c.write_back-end.ensures.end, c.depth.ensures.depth) }
