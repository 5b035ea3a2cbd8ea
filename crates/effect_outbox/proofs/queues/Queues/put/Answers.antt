use Rattle.std.proofs.Common.{◌-◌, arith}
use Rattle.effect_outbox.proofs.Steps.{less_room, room_left}
use Rattle.effect_outbox.proofs.queues.Queues.put.Goals as goal

pub invariant_of-self : goal.invariant_of-self
invariant_of-self c = record { down_room = room_left _ _ c.args.self.now.room c.put.ensures.room c.requires c.args.self.now.down_room; gateway_room = less_room _ c.args.self.now.room (c.args.self.now.room - 1) c.args.self.now.gateway_room (omega arith); subscriber_room = less_room _ c.args.self.now.room (c.args.self.now.room - 1) c.args.self.now.subscriber_room (omega arith) }

pub invariant_of-self-in-Gateway : goal.invariant_of-self-in-Gateway
invariant_of-self-in-Gateway c = record { down_room = less_room _ c.args.self.now.room (c.args.self.now.room - 1) c.args.self.now.down_room (omega arith); gateway_room = room_left _ _ c.args.self.now.room c.put-in-Gateway.ensures.room c.requires c.args.self.now.gateway_room; subscriber_room = less_room _ c.args.self.now.room (c.args.self.now.room - 1) c.args.self.now.subscriber_room (omega arith) }

pub invariant_of-self-in-Subscriber : goal.invariant_of-self-in-Subscriber
invariant_of-self-in-Subscriber c = record { down_room = less_room _ c.args.self.now.room (c.args.self.now.room - 1) c.args.self.now.down_room (omega arith); gateway_room = less_room _ c.args.self.now.room (c.args.self.now.room - 1) c.args.self.now.gateway_room (omega arith); subscriber_room = room_left _ _ c.args.self.now.room c.put-in-Subscriber.ensures.room c.requires c.args.self.now.subscriber_room }
