-- `numbering::renamed` meets its contract. Each arm is a case of the definition (engine, `ExchangeLaws`).
-- Assumes nothing.
use mathlib.Core.Path.{sym, ◌∙◌, ap}
use Rattle.engine.specs.Cells.{transposed}
use Rattle.engine.proofs.ExchangeLaws.{transposed_first, transposed_second, transposed_other}
use Rattle.numbering.proofs.renamed.Goals as goal

pub returns-then-v-k : goal.returns-then-v-k
returns-then-v-k c = let a = c.args in record { renamed = sym (ap (transposed a.k a.p) c.if-v-k.true ∙ transposed_first a.k a.p) }

pub returns-then-v-p : goal.returns-then-v-p
returns-then-v-p c = let a = c.args in record { renamed = sym (ap (transposed a.k a.p) c.if-v-p.true ∙ transposed_second a.k a.p) }

pub returns : goal.returns
returns c = let a = c.args in record { renamed = sym (transposed_other a.k a.p a.v c.if-v-k.false c.if-v-p.false) }
