use Rattle.std.proofs.Common.{ap, subst}
use Rattle.session_store.specs.Charter.{IsCharter}
use Rattle.session_store.proofs.Shards.{opened_store, opened_rows}
use Rattle.session_store.proofs.store.Store.new.Goals as goal

pub invariant_of-result : goal.invariant_of-result
invariant_of-result g c =
    let charter = g.L.RowLaw.charter c.args.law in
    opened_store (g.L.RowLaw.follows charter) charter c.args.devices c.in_ok-shards.shards.items (subst IsCharter c.charter.ensures c.recall.ensures) c.in_ok-shards.ensures

pub returns : goal.returns
returns g c = let charter = g.L.RowLaw.charter c.args.law in ap (λ rows. record { charter = charter; rows = rows; reads = 0 }) (opened_rows charter c.args.devices c.in_ok-shards.shards.items c.in_ok-shards.ensures)
