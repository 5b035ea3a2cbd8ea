use Rattle.std.proofs.Common.{◌≡◌, ◌≤◌, ◌-◌, List, set, take, refl, sym, ap, ◌∙◌, subst}
use Rattle.std.specs.Prelude.{IfOk}
use Rattle.device_types.specs.Journal.{version_of}
use Rattle.session_row.specs.Row.{RowState, Commits}
use Rattle.session_store.specs.Charter.{CharterState}
use Rattle.session_store.specs.Rows.{StoreState, row_of, journal_of}
use Rattle.session_store.specs.Shards.{shard_of, stored_rows, ShardState, row_in}
use Rattle.session_store.proofs.Shards.{row_set, same_set, shard_in, put_back, on_err}
use Rattle.session_store.proofs.store.Store.commit.Goals as goal

pub commit-requires-clause-here : goal.commit-requires-clause-here
commit-requires-clause-here g c = (shard_in c.self.invariant.placed c.self.view_is c.requires.device c.shard_of.ensures c.index_mut-shard.ensures.value).here

pub commit-requires-clause-version : goal.commit-requires-clause-version
commit-requires-clause-version g c =
    let own = shard_in c.self.invariant.placed c.self.view_is c.requires.device c.shard_of.ensures c.index_mut-shard.ensures.value in
    subst (λ (r : RowState). c.args.read ≤ version_of r.journal) (sym own.row) c.requires.version

pub commit-requires-clause-law : goal.commit-requires-clause-law
commit-requires-clause-law g c =
    let d = c.args.d.0 in
    let own = shard_in c.self.invariant.placed c.self.view_is c.requires.device c.shard_of.ensures c.index_mut-shard.ensures.value in
    subst (λ (r : RowState). g.L.RowLaw.follows c.index_mut-shard.result.now.charter d (take c.args.read r.journal) c.args.entry) (sym own.row)
    (subst (λ (x : CharterState). g.L.RowLaw.follows x d (take c.args.read (journal_of c.args.self.now.rows d)) c.args.entry) (sym own.under) c.requires.law)

pub invariant_of-self : goal.invariant_of-self
invariant_of-self g c =
    let own = shard_in c.self.invariant.placed c.self.view_is c.requires.device c.shard_of.ensures c.index_mut-shard.ensures.value in
    rw c.shard_of.ensures (put_back g.L.RowLaw.follows c.self.invariant own refl c.commit.ensures.others c.commit.ensures.lawful).0

pub returns-clause-ok : goal.returns-clause-ok
returns-clause-ok g c =
    let shards = c.self.inside.shards.items in
    let n = c.self.inside.devices in
    let d = c.args.d.0 in
    let now = c.commit.new.self in
    let placed = c.self.invariant.placed in
    let own = shard_in c.self.invariant.placed c.self.view_is c.requires.device c.shard_of.ensures c.index_mut-shard.ensures.value in
    let set_row : row_of (stored_rows (set shards c.shard_of.result now) n) d ≡ row_in now.rows d = rw c.shard_of.ensures (row_set (g.L.RowLaw.charter c.self.inside.law) n d shards now placed own.device) in
    subst (λ (r : RowState). IfOk c.commit.result (Commits (row_of c.args.self.now.rows d) r c.args.read c.args.entry)) (sym set_row)
    (subst (λ (r : RowState). IfOk c.commit.result (Commits r (row_in now.rows d) c.args.read c.args.entry)) own.row c.commit.ensures.ok)

pub returns-clause-others : goal.returns-clause-others
returns-clause-others g c =
    let shards = c.self.inside.shards.items in
    let n = c.self.inside.devices in
    let d = c.args.d.0 in
    let charter = g.L.RowLaw.charter c.self.inside.law in
    let now = c.commit.new.self in
    let own = shard_in c.self.invariant.placed c.self.view_is c.requires.device c.shard_of.ensures c.index_mut-shard.ensures.value in
    let rows = (put_back g.L.RowLaw.follows c.self.invariant own refl c.commit.ensures.others c.commit.ensures.lawful).1 in
    rw c.shard_of.ensures
    (ap (λ (xs : List RowState). record { charter = charter; rows = xs; reads = c.self.inside.reads }) (rows ∙ ap (set (stored_rows shards n) (d - 1)) (sym (row_set charter n d shards now c.self.invariant.placed own.device)))
    ∙ ap (λ (s : StoreState). record s { rows = set s.rows (d - 1) (row_of (stored_rows (set shards (shard_of d) now) n) d) }) c.self.view_is)

pub returns-clause-lawful : goal.returns-clause-lawful
returns-clause-lawful g c = (invariant_of-self g c).lawful

pub returns-clause-err : goal.returns-clause-err
returns-clause-err g c =
    let shards = c.self.inside.shards.items in
    let n = c.self.inside.devices in
    let d = c.args.d.0 in
    let charter = g.L.RowLaw.charter c.self.inside.law in
    let shard = c.index_mut-shard.result.now in
    let now = c.commit.new.self in
    let own = shard_in c.self.invariant.placed c.self.view_is c.requires.device c.shard_of.ensures c.index_mut-shard.ensures.value in
    rw c.shard_of.ensures
    (on_err (now ≡ shard) (record { charter = charter; rows = stored_rows (set shards (shard_of d) now) n; reads = c.self.inside.reads } ≡ c.args.self.now) c.commit.result
    (λ e. ap (λ (ss : List ShardState). record { charter = charter; rows = stored_rows ss n; reads = c.self.inside.reads }) (same_set charter n d shards shard now c.self.invariant.placed own.at e) ∙ c.self.view_is) c.commit.ensures.err)
