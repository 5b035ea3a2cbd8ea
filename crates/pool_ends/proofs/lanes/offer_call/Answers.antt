use Rattle.std.proofs.Common.{◌≤◌, ℕ, length, sym, subst}
use Rattle.shard_parts.specs.BothPeers.{lane_of}
use Rattle.pool_ends.specs.Lanes.{told_count}
use Rattle.pool_ends.proofs.Calls.{counts, told}
use Rattle.pool_ends.proofs.lanes.offer_call.Goals as goal

pub returns-clause-count : goal.returns-clause-count
returns-clause-count g c =
    let charter = g.P.SharedCalls.charter c.args.peers.now in
    let known = g.P.SharedCalls.known c.offer.new.seat c.args.d.0 (lane_of c.args.call) in
    subst (λ (n : ℕ). n ≤ length known) {x = told_count c.args.k c.in_ok-offer.offer} (sym {b = told_count c.args.k c.in_ok-offer.offer} c.told_count.ensures) (told charter c.args.d.0 c.args.k c.args.call known c.in_ok-offer.offer c.in_ok-offer.ensures.ok)

pub returns-clause-next : goal.returns-clause-next
returns-clause-next g c =
    counts (g.P.SharedCalls.charter c.args.peers.now) c.args.d.0 c.args.k c.args.call (g.P.SharedCalls.known c.args.seat.now c.args.d.0 (lane_of c.args.call)) (g.P.SharedCalls.known c.offer.new.seat c.args.d.0 (lane_of c.args.call)) c.in_ok-offer.offer c.in_ok-offer.ensures.ok (c.offer.ensures.seat.knows c.args.d.0 (lane_of c.args.call))
