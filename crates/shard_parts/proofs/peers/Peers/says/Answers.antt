use Rattle.shard_parts.proofs.Wraps.{gateway_said, subscriber_offered}
use Rattle.shard_parts.proofs.peers.Peers.says.Goals as goal

pub returns-in-Gateway : goal.returns-in-Gateway
returns-in-Gateway c = gateway_said c.args.row.now c.args.self.now c.args.k c.in-Gateway.call c.args.call.now c.says.result c.in-Gateway.is c.says.ensures

pub returns-in-Subscriber : goal.returns-in-Subscriber
returns-in-Subscriber c = subscriber_offered c.args.row.now c.args.self.now c.args.k c.in-Subscriber.call c.args.call.now c.says-in-Subscriber.result c.in-Subscriber.is c.says-in-Subscriber.ensures.offer
