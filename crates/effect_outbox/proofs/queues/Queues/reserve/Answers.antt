use Rattle.effect_outbox.proofs.queues.Queues.reserve.Goals as goal

pub invariant_of-self : goal.invariant_of-self
invariant_of-self c = record { down_room = c.reserve.ensures.kept c.args.self.now.room c.args.self.now.down_room; gateway_room = c.args.self.now.gateway_room; subscriber_room = c.args.self.now.subscriber_room }

pub invariant_of-self-in-Break-branch-2 : goal.invariant_of-self-in-Break-branch-2
invariant_of-self-in-Break-branch-2 c = record { down_room = c.reserve.ensures.kept c.args.self.now.room c.args.self.now.down_room; gateway_room = c.reserve-2.ensures.kept c.args.self.now.room c.args.self.now.gateway_room; subscriber_room = c.args.self.now.subscriber_room }

pub invariant_of-self-in-Break-branch-3 : goal.invariant_of-self-in-Break-branch-3
invariant_of-self-in-Break-branch-3 c = record { down_room = c.reserve.ensures.kept c.args.self.now.room c.args.self.now.down_room; gateway_room = c.reserve-2.ensures.kept c.args.self.now.room c.args.self.now.gateway_room; subscriber_room = c.reserve-3.ensures.kept c.args.self.now.room c.args.self.now.subscriber_room }
