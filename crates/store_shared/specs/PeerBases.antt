-- What contracts see of the shards of the peers.
use Rattle.std.specs.Prelude.{ℕ, List, map}
use Rattle.std.specs.Arc.{arc_value}
use Rattle.std.specs.List.{range_with_len}
use Rattle.session_store.specs.Charter.{CharterState}
use Rattle.session_store.specs.Shards.{shard_count}
use Rattle.store_shared.specs.declared.basis.PeerBasis.{PeerBasis}
use Rattle.store_shared.specs.declared.peer_shard.PeerShard.{PeerShard}
use Rattle.store_shared.specs.declared.turn.Turn.{Turn}

abbrev pub peer_basis_at : CharterState → ℕ → PeerBasis
peer_basis_at charter k = record { shard = k; charter = charter }

-- those of all shards, in order
abbrev pub peer_bases : CharterState → List PeerBasis
peer_bases charter = map (peer_basis_at charter) (range_with_len 0 shard_count)

-- what no turn on a shard changes, and its turns
abbrev pub peer_basis : PeerShard → PeerBasis
peer_basis t = peer_basis_at (arc_value t.law.charter) t.number

abbrev pub peer_turns : PeerShard → List Turn
peer_turns t = t.turns.items
