use Rattle.std.proofs.Common.{◌≤◌, ◌-◌, List, set, sym, ap, ◌∙◌, subst}
use Rattle.device_types.specs.Journal.{pushed_count}
use Rattle.effect_outbox.specs.Outbox.{number_on, settled_by}
use Rattle.session_row.specs.Row.{RowState}
use Rattle.session_store.specs.Rows.{StoreState, row_of, with_settled}
use Rattle.session_store.specs.Shards.{stored_rows}
use Rattle.session_store.proofs.Shards.{shard_in, put_back}
use Rattle.session_store.proofs.store.Store.settle.Goals as goal

pub settle-requires-clause-here : goal.settle-requires-clause-here
settle-requires-clause-here g c = (shard_in c.self.invariant.placed c.self.view_is c.requires.device c.shard_of.ensures c.index_mut-shard.ensures.value).here

pub settle-requires-clause-pushed : goal.settle-requires-clause-pushed
settle-requires-clause-pushed g c =
    let own = shard_in c.self.invariant.placed c.self.view_is c.requires.device c.shard_of.ensures c.index_mut-shard.ensures.value in
    subst (λ (r : RowState). c.args.k ≤ pushed_count c.args.lane r.journal) (sym own.row) c.requires.pushed

pub invariant_of-self : goal.invariant_of-self
invariant_of-self g c =
    let own = shard_in c.self.invariant.placed c.self.view_is c.requires.device c.shard_of.ensures c.index_mut-shard.ensures.value in
    rw c.shard_of.ensures (put_back g.L.RowLaw.follows c.self.invariant own c.settle.ensures.row c.settle.ensures.state c.settle.ensures.lawful).0

pub returns-clause-value : goal.returns-clause-value
returns-clause-value g c =
    let own = shard_in c.self.invariant.placed c.self.view_is c.requires.device c.shard_of.ensures c.index_mut-shard.ensures.value in
    c.settle.ensures.value ∙ ap (λ (r : RowState). settled_by (number_on r.settled c.args.lane) c.args.k) own.row

pub returns-clause-state : goal.returns-clause-state
returns-clause-state g c =
    let d = c.args.d.0 in
    let charter = g.L.RowLaw.charter c.self.inside.law in
    let before = stored_rows c.self.inside.shards.items c.self.inside.devices in
    let own = shard_in c.self.invariant.placed c.self.view_is c.requires.device c.shard_of.ensures c.index_mut-shard.ensures.value in
    let rows = (put_back g.L.RowLaw.follows c.self.invariant own c.settle.ensures.row c.settle.ensures.state c.settle.ensures.lawful).1 in
    rw c.shard_of.ensures
    (ap (λ (xs : List RowState). record { charter = charter; rows = xs; reads = c.self.inside.reads }) (rows ∙ ap (λ (r : RowState). set before (d - 1) (with_settled r c.args.lane c.args.k)) own.row)
    ∙ ap (λ (s : StoreState). record s { rows = set s.rows (d - 1) (with_settled (row_of c.args.self.now.rows d) c.args.lane c.args.k) }) c.self.view_is)

pub returns-clause-lawful : goal.returns-clause-lawful
returns-clause-lawful g c = (invariant_of-self g c).lawful
