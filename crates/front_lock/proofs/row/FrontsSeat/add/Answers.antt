use Rattle.front_lock.proofs.Columns.{numbered_more}
use Rattle.front_lock.proofs.row.FrontsSeat.add.Goals as goal

pub invariant_of-self-2 : goal.invariant_of-self-2
invariant_of-self-2 g c = record { numbered = numbered_more c.args.self.now.seats.items _ _ c.args.seat c.args.self.now.number c.push_reserved.ensures.items c.reserve.ensures.items c.requires c.args.self.now.numbered }
