-- `bases::Pathed::add_word` meets its contract. A spot that gives no word, or its line (`SumLaws`).
-- Assumes nothing.
use mathlib.Core.Path.{◌∙◌, sym}
use native.Mathlib.Omega.{arith}
use Rattle.bases.proofs.PathedLaws.{pathed, far_in}
use Rattle.bases.proofs.SumLaws.{size_used, size_line}
use Rattle.bases.proofs.Pathed.add_word.Goals as goal

pub returns-then-not-is_outside : goal.returns-then-not-is_outside
returns-then-not-is_outside c = record { size = size_used _ _ _ c.args.size _ (sym c.is_outside.ensures.outside ∙ c.if-not-is_outside.true) }

pub depth-requires-2 : goal.depth-requires-2
depth-requires-2 c = record { point = far_in (pathed c.args.self.now) _ _ c.requires.point c.requires.letter c.cell_at-x.ensures.cell (sym c.is_outside.ensures.outside ∙ c.if-not-is_outside.false) }

pub returns : goal.returns
returns c = record { size = size_line (pathed c.args.self.now) c.requires.point c.requires.letter c.args.size c.cell_at-x.ensures.cell (sym c.is_outside.ensures.outside ∙ c.if-not-is_outside.false) (omega (arith, c.depth.ensures.depth, c.depth-2.ensures.depth)) }
