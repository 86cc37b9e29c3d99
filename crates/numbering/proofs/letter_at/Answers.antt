-- `numbering::letter_at` meets its contract. The letters are scanned in the usual order.
-- Assumes nothing.
use mathlib.Core.Path.{sym}
use Rattle.theory.proofs.TableLaws.{get_or_usual}
use Rattle.numbering.proofs.letter_at.Goals as goal

pub returns : goal.returns
returns c = record { letter = (sym (get_or_usual _ _ c.requires), c.requires) }
