use Rattle.std.proofs.Common.{◌≡◌, ◌≤◌, ◌+◌, ◌-◌, Some, ap, length, rules, subst}
use Rattle.std.specs.Prelude.{slice_get}
use Rattle.device_types.specs.declared.event.Lane.{Lane}
use Rattle.device_types.specs.Journal.{effects_of}
use Rattle.front_lock.proofs.Items.{if_ok}
use Rattle.pool_ends.proofs.Calls.{call_is, lane_is_of}
use Rattle.pool_ends.proofs.lanes.bring_call.Goals as goal

pub offer_call-requires-clause-call : goal.offer_call-requires-clause-call
offer_call-requires-clause-call g c =
    let calls = effects_of c.args.lane c.args.journal.now in
    let got : slice_get calls (c.args.k - 1) ≡ Some c.in_ok-call.call = search rules in
    call_is (g.P.SharedCalls.charter c.args.peers.now) c.args.d.0 c.args.lane calls (ap (effects_of c.args.lane) c.requires.journal) c.requires.lane c.args.k c.in_ok-call.call c.requires.device c.requires.within.0 got

pub returns-clause-count : goal.returns-clause-count
returns-clause-count g c =
    let calls = effects_of c.args.lane c.args.journal.now in
    let got : slice_get calls (c.args.k - 1) ≡ Some c.in_ok-call.call = search rules in
    let on = lane_is_of (g.P.SharedCalls.charter c.args.peers.now) c.args.d.0 c.args.lane calls (ap (effects_of c.args.lane) c.requires.journal) c.requires.lane c.args.k c.in_ok-call.call got in
    if_ok _ _ c.offer_call.result (λ count least. subst (λ (l : Lane). count ≤ length (g.P.SharedCalls.known c.offer_call.new.seat c.args.d.0 l)) on least) c.offer_call.ensures.count

pub returns-clause-next : goal.returns-clause-next
returns-clause-next g c =
    let calls = effects_of c.args.lane c.args.journal.now in
    let got : slice_get calls (c.args.k - 1) ≡ Some c.in_ok-call.call = search rules in
    let on = lane_is_of (g.P.SharedCalls.charter c.args.peers.now) c.args.d.0 c.args.lane calls (ap (effects_of c.args.lane) c.requires.journal) c.requires.lane c.args.k c.in_ok-call.call got in
    let old = g.P.SharedCalls.known c.args.seat.now c.args.d.0 in
    let new = g.P.SharedCalls.known c.offer_call.new.seat c.args.d.0 in
    if_ok _ _ c.offer_call.result (λ count next. subst (λ (l : Lane). c.args.k ≤ length (old l) + 1 → c.args.k ≤ length (new l)) on next) c.offer_call.ensures.next
