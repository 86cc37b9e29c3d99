use mathlib.Core.Path.{◌≡◌, sym, ◌∙◌, ap}
use Prim.Native.Nat.{◌<◌}
use native.Mathlib.Omega.{arith}
use lib.ListN.{get_or, take, length-take}
use lib.Seq.{length-take-le}
use Rattle.std.proofs.lemmas.List.{get_or-take}
use Rattle.theory.specs.Letters.{letter_of, word_length}
use Rattle.theory.proofs.TextLaws.{word_length_le}
use Rattle.words.proofs.ReduceTurn.{held_first, head_low, head_turn, head_done}
use Rattle.words.proofs.reduce.Goals as goal
use Rattle.words.proofs.reduce.Goals.{In-loop-i}

pub slice_bounds-b-items-end : goal.slice_bounds-b-items-end
slice_bounds-b-items-end c = sym (length-take-le _ _ (omega (arith, word_length_le c.args.part.now, c.word_length-read.ensures.length)))

pub loop-i-init : goal.loop-i-init
loop-i-init c = held_first _

-- a letter is left to read
left : (c : In-loop-i) → c.loop-i.i < word_length c.args.part.now
left c = omega (arith, length-take c.word_length-read.result c.args.part.now, c.word_length-read.ensures.length)

pub push-top-requires : goal.push-top-requires
push-top-requires c =
    let l = left (goal.at.push-top-requires c).In-loop-i in
    (head_low _ _ c.loop-i.invariant (omega (arith, l)), omega (arith, l, c.requires))

pub loop-i-preserved : goal.loop-i-preserved
loop-i-preserved c =
    let l : c.loop-i.i < word_length c.args.part.now = left (goal.at.loop-i-preserved c).In-loop-i in
    let same : get_or (take c.word_length-read.result c.args.part.now) c.loop-i.i 0 ≡ get_or c.args.part.now c.loop-i.i 0 = get_or-take c.word_length-read.result c.args.part.now c.loop-i.i 0 (omega (arith, c.word_length-read.ensures.length, l)) in
    head_turn _ _ c.loop-i.invariant l c.requires (c.letter_of.ensures.letter ∙ ap letter_of same) c.push-top.ensures.pushed

pub returns : goal.returns
returns c = record { reduced = head_done _ _ c.loop-i.invariant c.word_length-read.ensures.length (omega (arith, length-take c.word_length-read.result c.args.part.now, word_length_le c.args.part.now)) }
