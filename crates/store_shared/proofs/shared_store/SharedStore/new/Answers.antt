use Rattle.std.proofs.Common.{List, subst}
use Rattle.store_shared.specs.declared.basis.ShardBasis.{ShardBasis}
use Rattle.front_lock.specs.FrontRow.{AreFreshSeats}
use Rattle.store_shared.specs.StoreBases.{store_basis}
use Rattle.front_lock.proofs.Columns.{all_fresh}
use Rattle.store_shared.proofs.shared_store.SharedStore.new.Goals as goal

pub returns-clause-seats : goal.returns-clause-seats
returns-clause-seats g c =
    subst (λ (bs : List ShardBasis). AreFreshSeats (store_basis {L = g.row.L.Denot} {h = g.L.RowLaw}) bs c.args.seats c.in_ok-fronts.fronts.fronts.items c.in_ok-fronts.made.items) c.in_ok-values.ensures.bases c.in_ok-fronts.ensures.seats

pub returns-clause-held : goal.returns-clause-held
returns-clause-held g c = all_fresh (store_basis {L = g.row.L.Denot} {h = g.L.RowLaw}) _ c.args.seats c.in_ok-fronts.fronts.fronts.items c.in_ok-fronts.made.items c.in_ok-fronts.ensures.seats
