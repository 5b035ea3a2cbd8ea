use Rattle.std.proofs.Common.{refl, arith}
use Rattle.device_types.specs.declared.event.Event.TheVariants.{Reply}
use Rattle.link_schedule.specs.Settled.{turns_in}
use Rattle.link_schedule.proofs.Goes.{turned, acknowledged_in}
use Rattle.link_schedule.proofs.world.World.acknowledge.Goals as goal

pub returns-clause-ok : goal.returns-clause-ok
returns-clause-ok c =
    let w = c.args.self.now in
    let s = w.setting in
    let H = turns_in w in
    let g = turned w c.reply.new.self (Reply c.args.d c.taken_count-n.result) _ s H c.in_ok-reply.ensures.ok refl refl in
    acknowledged_in c.reply.new.self s H c.args.d c.taken_count-n.result g.0 g.1 c.taken_count-n.ensures c.recall.ensures.lawful (let a = c.acked.ensures in omega arith)
