use Rattle.std.proofs.Common.{ap}
use Rattle.std.specs.Arc.{arc_value}
use Rattle.store_shared.specs.declared.turn.TurnAnswer.TheVariants as answers
use Rattle.store_shared.specs.PeerShards.{offer_by}
use Rattle.store_shared.proofs.Offers.{offers_by, kept_with}
use Rattle.store_shared.proofs.peer_shard.PeerShard.offer.Goals as goal

pub invariant_of-self-2 : goal.invariant_of-self-2
invariant_of-self-2 c =
    let s = c.args.self.now in
    let x = offer_by c.args.seat c.args.d c.args.k c.args.call (answers.Offer c.in-Ok.offer) in
    let t = offers_by (arc_value s.law.charter) s.number s.peers c.offer_twice.new.self s.turns.items c.args.seat c.args.d c.args.k c.row_at-row.result.now c.args.call c.in-Ok.offer c.row_at-row.ensures.number s.kept c.requires.offered c.row_at-row.ensures.row (rw (← c.get.ensures) c.in-Ok.ensures.offer) (rw (← c.get.ensures) c.in-Ok.ensures.gateway) (rw (← c.get.ensures) c.in-Ok.ensures.subscriber) in
    record { kept = kept_with (arc_value s.law.charter) s.number c.offer_twice.new.self s.turns.items _ _ x _ t c.push_reserved.ensures.items c.reserve.ensures.items (ap (λ o. offer_by c.args.seat c.args.d c.args.k c.args.call (answers.Offer o)) c.in-Ok.ensures.copy) }
