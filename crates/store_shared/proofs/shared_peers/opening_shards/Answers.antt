use Rattle.std.proofs.Common.{ap, map}
use Rattle.std.specs.Arc.{arc_value}
use Rattle.session_store.specs.Shards.{shard_count}
use Rattle.store_shared.specs.PeerBases.{peer_basis, peer_basis_at, peer_turns}
use Rattle.store_shared.proofs.Turns.{all_made, empty_on, none_held, shards_on}
use Rattle.store_shared.proofs.shared_peers.opening_shards.Goals as goal

pub loop-number-preserved : goal.loop-number-preserved
loop-number-preserved c =
    let i = c.loop-number.invariant in
    let at = peer_basis_at (arc_value c.args.law.now.charter) in
    let more = c.in_ok-add_shard.ensures in
    record {
      bases = shards_on peer_turns peer_basis at c.loop-number.made.items c.add_shard.new.made.items c.loop-number.number more i.bases;
      empty = empty_on peer_turns peer_basis (at c.loop-number.number) c.loop-number.made.items c.add_shard.new.made.items more i.empty;
    }

pub loop-number-init : goal.loop-number-init
loop-number-init c = record {
  bases = ap (map peer_basis) c.new-made.ensures.items;
  empty = none_held peer_turns c.new-made.result.items c.new-made.ensures.items;
}

pub returns-clause-bases : goal.returns-clause-bases
returns-clause-bases c =
    all_made peer_basis (peer_basis_at (arc_value c.args.law.now.charter)) c.loop-number.made.items c.loop-number.number shard_count c.loop-number.auto.number-end c.loop-number-test.false c.loop-number.invariant.bases

pub returns-clause-empty : goal.returns-clause-empty
returns-clause-empty c = c.loop-number.invariant.empty
