use Rattle.std.proofs.Common.{◌∷◌, ◌++◌, [], ◌∙◌, ap}
use Rattle.store_shared.specs.PeerBases.{peer_basis_at}
use Rattle.store_shared.proofs.shared_peers.add_shard.Goals as goal

pub returns : goal.returns
returns c =
    let made = c.in_ok-shard.ensures in
    let e = made.charter ∙ c.in_ok-copy.ensures in
    record {
      value = c.in_ok-shard.shard;
      items = c.push_reserved.ensures.items ∙ ap (λ l. l ++ c.in_ok-shard.shard ∷ []) c.reserve.ensures.items;
      basis_is = λ j. peer_basis_at (e j) (made.number j);
      empty = made.turns;
    }
