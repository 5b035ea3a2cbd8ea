use Rattle.std.proofs.Common.{ap, map}
use Rattle.session_store.specs.Shards.{shard_count}
use Rattle.store_shared.specs.StoreBases.{basis_at, store_basis, store_turns}
use Rattle.store_shared.proofs.Turns.{all_made, empty_on, none_held, shards_on}
use Rattle.store_shared.proofs.shared_store.opening_shards.Goals as goal

pub loop-number-preserved : goal.loop-number-preserved
loop-number-preserved g c =
    let i = c.loop-number.invariant in
    let at = basis_at c.args.devices (g.L.RowLaw.charter c.args.law.now) in
    let more = c.in_ok-add_shard.ensures in
    record {
      bases = shards_on store_turns (store_basis {L = g.row.L.Denot} {h = g.L.RowLaw}) at c.loop-number.made.items c.add_shard.new.made.items c.loop-number.number more i.bases;
      empty = empty_on store_turns (store_basis {L = g.row.L.Denot} {h = g.L.RowLaw}) (at c.loop-number.number) c.loop-number.made.items c.add_shard.new.made.items more i.empty;
    }

pub loop-number-init : goal.loop-number-init
loop-number-init g c = record {
  bases = ap (map (store_basis {L = g.row.L.Denot} {h = g.L.RowLaw})) c.new-made.ensures.items;
  empty = none_held (store_turns {L = g.row.L.Denot} {h = g.L.RowLaw}) c.new-made.result.items c.new-made.ensures.items;
}

pub returns-clause-bases : goal.returns-clause-bases
returns-clause-bases g c =
    let at = basis_at c.args.devices (g.L.RowLaw.charter c.args.law.now) in
    all_made (store_basis {L = g.row.L.Denot} {h = g.L.RowLaw}) at c.loop-number.made.items c.loop-number.number shard_count c.loop-number.auto.number-end c.loop-number-test.false c.loop-number.invariant.bases

pub returns-clause-empty : goal.returns-clause-empty
returns-clause-empty g c = c.loop-number.invariant.empty
