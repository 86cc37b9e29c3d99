-- `rooms::unite` meets its contract. The three outcomes are those of `UniteLaws`.
-- Assumes nothing.
use native.Mathlib.Omega.{arith}
use Rattle.rooms.proofs.UniteLaws.{ready, mid_kept, left_inside, right_inside, send_fits, outcome_same, outcome_less, outcome_greater}
use Rattle.rooms.proofs.unite.Goals as goal

pub find-b-requires-clause-falls : goal.find-b-requires-clause-falls
find-b-requires-clause-falls c = (mid_kept (ready c.requires.falls c.requires.p_lt_n) c.find-a.ensures.found).falls

pub send-requires : goal.send-requires
send-requires c =
    let h = ready c.requires.falls c.requires.p_lt_n in
    send_fits h c.find-a.ensures.found c.find-b.ensures.found _ (right_inside h c.find-a.ensures.found c.find-b.ensures.found)

pub returns-then-a-b : goal.returns-then-a-b
returns-then-a-b c = record {
  united = outcome_less (ready c.requires.falls c.requires.p_lt_n) c.find-a.ensures.found c.find-b.ensures.found _ c.if-a-b.true
      c.send.ensures.sent;
}

pub send-requires-then-b-a : goal.send-requires-then-b-a
send-requires-then-b-a c =
    let h = ready c.requires.falls c.requires.p_lt_n in
    send_fits h c.find-a.ensures.found c.find-b.ensures.found _ (left_inside h c.find-a.ensures.found)

pub returns-then-b-a : goal.returns-then-b-a
returns-then-b-a c = record {
  united = outcome_greater (ready c.requires.falls c.requires.p_lt_n) c.find-a.ensures.found c.find-b.ensures.found _ c.if-b-a.true
      c.send-then-b-a.ensures.sent;
}

pub returns : goal.returns
returns c = record {
  united = outcome_same (ready c.requires.falls c.requires.p_lt_n) c.find-a.ensures.found c.find-b.ensures.found
      (omega (arith, c.if-a-b.false, c.if-b-a.false));
}
