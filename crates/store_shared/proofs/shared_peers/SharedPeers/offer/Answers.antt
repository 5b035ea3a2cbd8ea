use Rattle.std.proofs.Common.{sym, ap, ◌∙◌, subst}
use Rattle.std.specs.Prelude.{slice_get}
use Rattle.std.specs.Arc.{arc_value}
use Rattle.session_store.specs.Shards.{shard_of}
use Rattle.store_shared.specs.declared.basis.PeerBasis.{PeerBasis}
use Rattle.store_shared.specs.PeerBases.{peer_basis_at, peer_basis, peer_turns}
use Rattle.store_shared.specs.PeerShards.{IsOffered}
use Rattle.store_shared.specs.StoreBases.{seat_of}
use Rattle.store_shared.proofs.Turns.{front_basis, low, offered, missed_at, turned_at}
use Rattle.store_shared.proofs.shared_peers.SharedPeers.offer.Goals as goal

pub turn-requires-clause-can : goal.turn-requires-clause-can
turn-requires-clause-can g c = λ f s gf gs.
    let fs = c.args.self.now.fronts.fronts.items in
    let here = ap (slice_get fs) (sym c.place_of.ensures) ∙ gf in
    let e = front_basis peer_basis (peer_basis_at (arc_value c.args.self.now.law.charter)) fs (shard_of c.args.d.0) f c.args.self.now.based (low c.args.d) here in
    subst (λ (b : PeerBasis). IsOffered b.charter b.shard c.args.d.0 c.args.k c.args.call) (sym e) c.requires.offered

pub returns-in-Ok-clause-ok : goal.returns-in-Ok-clause-ok
returns-in-Ok-clause-ok g c =
    offered peer_turns peer_basis (arc_value c.args.self.now.law.charter) c.args.self.now.fronts.fronts.items c.args.seat.now.seats.items c.turn.new.me.seats.items c.args.d c.args.k c.args.call _ c.in-Ok.answer
    (λ y. y.kept.legal) (λ b before x m. m) c.requires.seat c.args.self.now.based
    (turned_at peer_turns peer_basis seat_of _ c.args.seat.now.seats.items c.turn.new.me.seats.items c.place_of.result (shard_of c.args.d.0) c.in-Ok.answer c.place_of.ensures c.in-Ok.ensures.ok)

pub returns-in-Err-clause-err : goal.returns-in-Err-clause-err
returns-in-Err-clause-err g c =
    missed_at peer_turns peer_basis c.args.seat.now.seats.items c.turn.new.me.seats.items c.place_of.result (shard_of c.args.d.0) c.place_of.ensures c.in-Err.ensures.err
