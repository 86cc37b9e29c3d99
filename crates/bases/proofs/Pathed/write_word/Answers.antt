-- `bases::Pathed::write_word` meets its contract. Nothing, or the line of the edge (`SumLaws`).
-- Assumes nothing.
use mathlib.Core.Path.{◌∙◌, sym}
use native.Mathlib.Omega.{arith}
use Rattle.bases.proofs.PathedLaws.{pathed, far_in, line_length}
use Rattle.bases.proofs.SumLaws.{word_none, word_line}
use Rattle.bases.proofs.Pathed.write_word.Goals as goal

pub returns-then-not-is_outside : goal.returns-then-not-is_outside
returns-then-not-is_outside c = let all = word_none (pathed c.args.self.now) c.requires.point c.requires.letter _ _ (sym c.is_outside.ensures.outside ∙ c.if-not-is_outside.true) in record { text = all.0; end = all.1 }

pub write_line-requires-clause-to : goal.write_line-requires-clause-to
write_line-requires-clause-to c = far_in (pathed c.args.self.now) _ _ c.requires.point c.requires.letter c.cell_at-x.ensures.cell (sym c.is_outside.ensures.outside ∙ c.if-not-is_outside.false)

pub write_line-requires-clause-room : goal.write_line-requires-clause-room
write_line-requires-clause-room c = omega (arith, c.requires.room, line_length (pathed c.args.self.now) _ _ c.requires.point c.requires.letter c.cell_at-x.ensures.cell (sym c.is_outside.ensures.outside ∙ c.if-not-is_outside.false))

pub returns : goal.returns
returns c = let all = word_line (pathed c.args.self.now) c.requires.point c.requires.letter _ _ c.cell_at-x.ensures.cell (sym c.is_outside.ensures.outside ∙ c.if-not-is_outside.false) c.write_line.ensures.line c.write_line.ensures.end in record { text = all.0; end = all.1 }
