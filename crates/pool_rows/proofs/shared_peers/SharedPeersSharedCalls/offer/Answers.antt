use Rattle.std.proofs.Common.{refl, subst}
use Rattle.std.specs.Arc.{arc_value}
use Rattle.session_store.specs.Charter.{IsCharter}
use Rattle.session_store.specs.Shards.{shard_of}
use Rattle.shard_parts.specs.BothPeers.{lane_of}
use Rattle.front_lock.proofs.Items.{if_ok}
use Rattle.pool_rows.proofs.Charters.{line_at, number_low}
use Rattle.pool_rows.proofs.Offers.{accepted_still, offer_told}
use Rattle.pool_rows.proofs.Seats.{goes_on, offered_moves}
use Rattle.pool_rows.proofs.shared_peers.SharedPeersSharedCalls.offer.Goals as goal

pub offer-requires-clause-offered : goal.offer-requires-clause-offered
offer-requires-clause-offered g c =
    let charter = arc_value c.args.self.now.law.charter in
    let is = c.requires.call in
    let form = subst IsCharter c.charter.ensures c.recall.ensures in
    record {
      device = is.device;
      here = refl;
      called = is.called;
      least = is.least;
      most = number_low charter c.args.d.0 c.args.k (lane_of c.args.call) c.args.call (line_at charter c.args.d.0 form is.device) is.law;
      law = is.law;
    }

pub returns-clause-seat : goal.returns-clause-seat
returns-clause-seat g c =
    let at = shard_of c.args.d.0 in
    goes_on _ _ _ _ c.args.seat.now c.offer.new.seat at _ c.offer.result (accepted_still c.args.seat.now.seats.items c.offer.new.seat.seats.items at) (λ a offered. offered_moves c.offer.ensures.others offered) c.offer.ensures.others c.offer.ensures.seat c.offer.ensures.ok c.offer.ensures.err

pub returns-clause-ok : goal.returns-clause-ok
returns-clause-ok g c =
    let form = subst IsCharter c.charter.ensures c.recall.ensures in
    if_ok _ _ c.offer.result (λ a offered. offer_told offered form c.requires.call) c.offer.ensures.ok
