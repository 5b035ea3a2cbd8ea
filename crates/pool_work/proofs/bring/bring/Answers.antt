use Rattle.std.proofs.Common.{◌≡◌, ◌∙◌, ap, sym}
use Rattle.shard_parts.specs.BothPeers.{lane_of}
use Rattle.pool_work.proofs.Calls.{call_is, lane_is, pushed_at, said}
use Rattle.pool_work.proofs.bring.bring.Goals as goal

pub offer-requires-clause-call : goal.offer-requires-clause-call
offer-requires-clause-call g c =
    let charter = g.P.SharedCalls.charter c.args.peers.now in
    let rows : g.T.SharedRows.charter c.push.new.self.rows ≡ charter = ap g.T.SharedRows.charter c.in_ok-call.ensures.store.same ∙ sym c.requires.charter in
    call_is charter c.args.d.0 c.args.k c.args.lane c.in-Some.call c.requires.device c.requires.lane c.requires.number
    (pushed_at (g.T.SharedRows.charter c.push.new.self.rows) charter c.args.d.0 c.args.k c.args.lane c.in_ok-call.field-0 c.in-Some.call rows c.in-Some.is c.in_ok-call.ensures.effect)

pub returns-clause-offer : goal.returns-clause-offer
returns-clause-offer g c =
    let charter = g.P.SharedCalls.charter c.args.peers.now in
    let rows : g.T.SharedRows.charter c.push.new.self.rows ≡ charter = ap g.T.SharedRows.charter c.in_ok-call.ensures.store.same ∙ sym c.requires.charter in
    let at = pushed_at (g.T.SharedRows.charter c.push.new.self.rows) charter c.args.d.0 c.args.k c.args.lane c.in_ok-call.field-0 c.in-Some.call rows c.in-Some.is c.in_ok-call.ensures.effect in
    said charter c.args.d.0 c.args.k c.args.lane c.in-Some.call (g.P.SharedCalls.known c.offer.new.seat c.args.d.0 (lane_of c.in-Some.call)) c.in_ok-offer.field-0
    (lane_is charter c.args.d.0 c.args.k c.args.lane c.in-Some.call c.requires.lane at).1 c.in_ok-offer.ensures.ok
