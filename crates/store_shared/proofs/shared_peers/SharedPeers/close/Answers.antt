use Rattle.std.proofs.Common.{◌≡◌, ◌<◌, ℕ, ◌∙◌, subst}
use Rattle.front_lock.specs.declared.front.Front.{Front}
use Rattle.front_lock.specs.Front.{basis_of, seats_of}
use Rattle.store_shared.specs.declared.basis.PeerBasis.{PeerBasis}
use Rattle.store_shared.specs.declared.peer_shard.PeerShard.{PeerShard}
use Rattle.store_shared.specs.declared.turn.Turn.{Turn}
use Rattle.store_shared.specs.PeerBases.{peer_basis}
use Rattle.front_lock.specs.FrontRow.{SpeaksOnAll}
use Rattle.front_lock.proofs.Columns.{all_of}
use Rattle.store_shared.proofs.Turns.{closed_bases}
use Rattle.store_shared.proofs.shared_peers.SharedPeers.close.Goals as goal

pub returns-in-Ok-clause-charter : goal.returns-in-Ok-clause-charter
returns-in-Ok-clause-charter c =
    closed_bases _ (λ (p : Front PeerShard Turn PeerBasis). basis_of peer_basis p) peer_basis (λ f s y closed. closed.basis_is) c.args.self.fronts.fronts.items c.args.seat.seats.items c.in-Ok.values.items c.in-Ok.ensures.ok ∙ c.args.self.based

pub close-requires-clause-all : goal.close-requires-clause-all
close-requires-clause-all c =
    all_of (λ (f : Front (PeerShard) Turn PeerBasis). seats_of f ≡ c.args.self.seats) (λ (f : Front (PeerShard) Turn PeerBasis). (n : ℕ) → n < seats_of f → SpeaksOnAll n c.args.seat.seats.items) c.args.self.fronts.fronts.items
    (λ f e n lt. c.requires.all n (subst (λ (m : ℕ). n < m) e lt)) c.args.self.seated
