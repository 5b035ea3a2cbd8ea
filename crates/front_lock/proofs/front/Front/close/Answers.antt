use Rattle.front_lock.proofs.Seats.{closes}
use Rattle.front_lock.proofs.front.Front.close.Goals as goal

pub returns : goal.returns
returns g c = closes g.T.Held.turns g.T.Held.basis g.T.Held.by _ _ _ _ _ _ c.take-value.result c.args.seat.rests.1 c.requires.all c.close_with-closed.ensures.values.2 c.take-value.ensures.value
