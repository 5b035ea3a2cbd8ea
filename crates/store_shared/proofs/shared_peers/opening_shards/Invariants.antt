use Rattle.std.proofs.Common.{◌≡◌, [], map, All}
use Rattle.std.specs.Arc.{arc_value}
use Rattle.std.specs.List.{range_with_len}
use Rattle.store_shared.specs.PeerBases.{peer_basis_at, peer_basis}
use Rattle.store_shared.proofs.shared_peers.opening_shards.Given as goal

abbrev pub invariant-loop-number : goal.invariant-loop-number
invariant-loop-number l = record {
  bases : map peer_basis l.made.items ≡ map (peer_basis_at (arc_value l.law.charter)) (range_with_len 0 l.number);
  empty : All (λ t. t.turns.items ≡ []) l.made.items;
}
