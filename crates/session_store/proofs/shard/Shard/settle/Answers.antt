use Rattle.std.proofs.Common.{◌≡◌, ℕ, List, sym, subst}
use Rattle.session_row.specs.Row.{RowState}
use Rattle.session_store.specs.Law.{IsLawful}
use Rattle.session_store.specs.Shards.{ShardState, IsHere, row_in, IsShard}
use Rattle.session_store.proofs.Shards.{found, stays_shard}
use Rattle.session_store.proofs.shard.Shard.settle.Goals as goal

pub invariant_of-self : goal.invariant_of-self
invariant_of-self g c =
    let rows = c.self.inside.rows.entries in
    let d = c.args.d.0 in
    let old = c.in-Some.row.now in
    let now = c.settle.new.self in
    let charter = g.L.RowLaw.charter c.self.inside.law in
    let follows = g.L.RowLaw.follows charter in
    let shard : ShardState = record { charter = charter; number = c.self.inside.number; devices = c.self.inside.devices; rows = rows } in
    let here : IsHere shard d = subst (λ (s : ShardState). IsHere s d) (sym c.self.view_is) c.requires.here in
    let row : row_in rows d ≡ old = found rows d old c.in-Some.ensures.value in
    let was : IsLawful (follows d) old.journal = subst (λ (r : RowState). IsLawful (follows d) r.journal) row (c.self.invariant.lawful d here) in
    let holds = c.get_mut.follows.holds now in
    subst (λ (xs : List (ℕ × RowState)). IsShard follows (record shard { rows = xs })) (sym holds.0)
    (stays_shard follows shard d now c.self.invariant here (subst (λ (r : RowState). IsLawful (follows d) r.journal) (sym c.settle.ensures.state) was))

pub returns-clause-lawful : goal.returns-clause-lawful
returns-clause-lawful g c = (invariant_of-self g c).lawful
