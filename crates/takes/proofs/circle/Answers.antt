use Rattle.takes.proofs.TakeTurn.{front_asks, back_asks, chain_asks, circle_is}
use Rattle.takes.proofs.circle.Goals as goal

pub front_of-front-requires-clause-readable : goal.front_of-front-requires-clause-readable
front_of-front-requires-clause-readable c = front_asks c.requires.takeable c.reduce-word.ensures.reduced

pub back_of-back-requires-clause-readable : goal.back_of-back-requires-clause-readable
back_of-back-requires-clause-readable c = back_asks c.requires.takeable c.reduce-word.ensures.reduced c.front_of-front.ensures.front

pub chain-requires-clause-fits : goal.chain-requires-clause-fits
chain-requires-clause-fits c = rw c.requires.settled (chain_asks c.requires.takeable c.reduce-word.ensures.reduced c.front_of-front.ensures.front c.back_of-back.ensures.back)

pub returns-clause-circle : goal.returns-clause-circle
returns-clause-circle c = circle_is c.requires.takeable c.reduce-word.ensures.reduced c.front_of-front.ensures.front c.back_of-back.ensures.back c.chain.ensures.chained
