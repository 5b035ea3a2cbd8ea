use Rattle.std.proofs.Common.{rules}
use Rattle.shard_parts.proofs.peers.Peers.offer_twice.Goals as goal

pub returns-clause-offer : goal.returns-clause-offer
returns-clause-offer c = search rules
