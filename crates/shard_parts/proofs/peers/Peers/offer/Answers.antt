use Rattle.shard_parts.proofs.Wraps.{gateway_offered, subscriber_offered}
use Rattle.shard_parts.proofs.peers.Peers.offer.Goals as goal

pub returns-in-Gateway-clause-offer : goal.returns-in-Gateway-clause-offer
returns-in-Gateway-clause-offer c = gateway_offered c.args.row.now c.args.self.now c.args.k c.in-Gateway.call c.args.call.now c.offer.result c.in-Gateway.is c.offer.ensures.offer

pub returns-in-Subscriber-clause-offer : goal.returns-in-Subscriber-clause-offer
returns-in-Subscriber-clause-offer c = subscriber_offered c.args.row.now c.args.self.now c.args.k c.in-Subscriber.call c.args.call.now c.offer-in-Subscriber.result c.in-Subscriber.is c.offer-in-Subscriber.ensures.offer
