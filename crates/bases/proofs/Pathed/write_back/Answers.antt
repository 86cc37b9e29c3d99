use mathlib.Core.Path.{◌≡◌, ◌∙◌, ap}
use native.Mathlib.Omega.{arith}
use lib.ListN.{length}
use lib.Seq.{sets}
use Rattle.bases.specs.Chains.{depth_of, back_bytes}
use Rattle.bases.proofs.PathedLaws.{pathed, chain}
use Rattle.bases.proofs.ChainLaws.{back_first, back_link, back_turn, back_done, part_length, part_written}
use Rattle.bases.proofs.Pathed.write_back.Goals as goal

pub loop-cell-init : goal.loop-cell-init
loop-cell-init c = back_first (chain (pathed c.args.self.now) _ c.requires.point)

pub byte_back-requires : goal.byte_back-requires
byte_back-requires c = record { point = back_link c.loop-cell.invariant (omega (arith, part_length c.args.out.now c.args.at c.depth.ensures.depth c.requires.room)) }

pub bounds-self-p : goal.bounds-self-p
bounds-self-p c = omega (arith, back_link c.loop-cell.invariant (omega (arith, part_length c.args.out.now c.args.at c.depth.ensures.depth c.requires.room)))

pub loop-cell-preserved : goal.loop-cell-preserved
loop-cell-preserved c = back_turn c.loop-cell.invariant (omega (arith, part_length c.args.out.now c.args.at c.depth.ensures.depth c.requires.room)) (omega arith) c.byte_back.ensures.byte

pub returns : goal.returns
unfolding back_bytes
returns c =
    let size : length c.loop-cell.cell-items ≡ depth_of c.args.self.now.table.points c.args.self.now.notes.now c.args.x =
    c.loop-cell.auto.cell-items ∙ part_length c.args.out.now c.args.at c.depth.ensures.depth c.requires.room in
    record {
      back = part_written c.args.out.now c.args.at c.depth.ensures.depth c.requires.room c.loop-cell.cell-items size ∙ ap (sets c.args.out.now c.args.at) (back_done c.loop-cell.invariant size (omega arith));
      end = omega (arith, c.depth.ensures.depth);
    }
