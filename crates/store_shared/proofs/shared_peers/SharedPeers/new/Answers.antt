use Rattle.std.proofs.Common.{List, subst}
use Rattle.store_shared.specs.declared.basis.PeerBasis.{PeerBasis}
use Rattle.front_lock.specs.FrontRow.{AreFreshSeats}
use Rattle.store_shared.specs.PeerBases.{peer_basis}
use Rattle.front_lock.proofs.Columns.{all_fresh}
use Rattle.store_shared.proofs.shared_peers.SharedPeers.new.Goals as goal

pub returns-clause-seats : goal.returns-clause-seats
returns-clause-seats c =
    subst (λ (bs : List PeerBasis). AreFreshSeats peer_basis bs c.args.seats c.in_ok-fronts.fronts.fronts.items c.in_ok-fronts.made.items) c.in_ok-values.ensures.bases c.in_ok-fronts.ensures.seats

pub returns-clause-held : goal.returns-clause-held
returns-clause-held c = all_fresh peer_basis _ c.args.seats c.in_ok-fronts.fronts.fronts.items c.in_ok-fronts.made.items c.in_ok-fronts.ensures.seats
