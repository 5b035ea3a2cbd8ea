use Rattle.session_store.specs.Shards.{shard_of}
use Rattle.front_lock.specs.FrontRow.{seen_at}
use Rattle.store_shared.specs.PeerBases.{peer_turns}
use Rattle.pool_rows.specs.Shared.{turns_on}
use Rattle.pool_rows.proofs.Closed.{calls_lawful, closed_seen, every}
use Rattle.pool_rows.proofs.Offers.{accepted_begins}
use Rattle.pool_rows.proofs.shared_peers.SharedPeersSharedCalls.close.Goals as goal

pub returns-in-Ok-clause-closed : goal.returns-in-Ok-clause-closed
returns-in-Ok-clause-closed c = record { bases = c.in-Ok.ensures.charter; legal = every _ c.in-Ok.shards.items (λ t. t.kept.legal) }

pub returns-in-Ok-clause-seen : goal.returns-in-Ok-clause-seen
returns-in-Ok-clause-seen c = λ d lane. accepted_begins d lane (seen_at c.args.seat.seats.items (shard_of d)) (turns_on peer_turns c.in-Ok.shards.items (shard_of d))
    (closed_seen peer_turns _ (λ f s y i. i.seen) c.args.self.fronts.fronts.items c.args.seat.seats.items c.in-Ok.shards.items c.in-Ok.ensures.closed (shard_of d))

pub returns-in-Ok-clause-lawful : goal.returns-in-Ok-clause-lawful
returns-in-Ok-clause-lawful c = λ d lane within. calls_lawful _ c.in-Ok.shards.items c.in-Ok.ensures.charter d lane within
