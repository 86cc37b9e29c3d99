-- `lists::which_of` meets its contract. Each answer is a case of the definition.
-- Assumes nothing.
use mathlib.Core.Path.{sym}
use native.Mathlib.Omega.{arith}
use borrow.Author.Tests.{le-leb, lt-leb}
use Rattle.theory.specs.Letters.{letters_in}
use Rattle.lists.specs.Shorter.{which_of}
use Rattle.lists.proofs.which_of.Goals as goal

pub returns-then-letters_in : goal.returns-then-letters_in
unfolding which_of
returns-then-letters_in c =
    let few = le-leb (letters_in c.args.first.now) (letters_in c.args.second.now) (omega (arith, c.if-letters_in.true, c.letters_in.ensures.letters, c.letters_in-then-is_good-2.ensures.letters)) in
    record { which = rw (sym c.if-is_good.ensures.good, sym c.if-is_good-2.ensures.good, few) }

pub returns-then-is_good-2 : goal.returns-then-is_good-2
unfolding which_of
returns-then-is_good-2 c =
    let more = lt-leb (letters_in c.args.first.now) (letters_in c.args.second.now) (omega (arith, c.if-letters_in.false, c.letters_in.ensures.letters, c.letters_in-then-is_good-2.ensures.letters)) in
    record { which = rw (sym c.if-is_good.ensures.good, sym c.if-is_good-2.ensures.good, more) }

pub returns-then-is_good : goal.returns-then-is_good
unfolding which_of
returns-then-is_good c = record { which = rw (sym c.if-is_good.ensures.good, sym c.if-is_good-2.ensures.good) }

pub returns-then-is_good-3 : goal.returns-then-is_good-3
unfolding which_of
returns-then-is_good-3 c = record { which = rw (sym c.if-is_good.ensures.good, sym c.if-is_good-3.ensures.good) }

pub returns : goal.returns
unfolding which_of
returns c = record { which = rw (sym c.if-is_good.ensures.good, sym c.if-is_good-3.ensures.good) }
