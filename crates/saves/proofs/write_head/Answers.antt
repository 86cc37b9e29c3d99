-- `write_head` meets its contract: three numbers, one behind the other.
-- Assumes nothing.
use mathlib.Core.Path.{ap}
use lib.ListN.{length}
use native.Mathlib.Omega.{arith}
use Rattle.theory.specs.Files.{number_bytes}
use Rattle.numbers.specs.Kinds.{kind_number}
use Rattle.saves.proofs.HeadLaws.{small_kind, written_kind, first_room, second_room, third_room, head_written}
use Rattle.saves.proofs.write_head.Goals as goal

pub write_number-first-requires : goal.write_number-first-requires
write_number-first-requires c =
    let e = c.number.ensures.number in
    let first = first_room (kind_number c.args.kind) c.args.n c.args.count c.args.out.now c.requires.2 in
    (omega (arith, e, small_kind c.args.kind), omega (arith, first, ap (λ k. length (number_bytes k)) e))

pub write_number-second-requires : goal.write_number-second-requires
write_number-second-requires c = (omega (arith, c.requires.0), second_room _ _ _ _ c.requires.2 (written_kind c.number.ensures.number c.write_number-first.ensures.written))

pub write_number-requires : goal.write_number-requires
write_number-requires c = (c.requires.1, third_room _ _ _ _ c.requires.2 (written_kind c.number.ensures.number c.write_number-first.ensures.written) c.write_number-second.ensures.written)

pub returns : goal.returns
returns c = record { written = head_written _ _ _ _ c.requires.2 (written_kind c.number.ensures.number c.write_number-first.ensures.written) c.write_number-second.ensures.written c.write_number.ensures.written }
