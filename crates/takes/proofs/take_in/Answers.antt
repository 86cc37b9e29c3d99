use Rattle.takes.proofs.TakeTurn.{drain_asks}
use Rattle.takes.proofs.take_in.Goals as goal

pub drain-requires : goal.drain-requires
drain-requires c = rw c.circle-left.ensures.held.room (drain_asks c.requires.takeable c.circle-left.ensures.circle)
