use Rattle.device_types.specs.declared.event.Lane.{Lane}
use Rattle.device_types.specs.declared.event.Lane.TheVariants as lane
use Rattle.front_lock.proofs.Items.{if_ok}
use Rattle.pool_ends.specs.Lanes.{HasWhole}
use Rattle.pool_rows.specs.Laws.{calls_twice}
use Rattle.pool_ends.proofs.Calls.{both, whole_more}
use Rattle.pool_ends.proofs.lanes.bring_device.Goals as goal

pub returns-clause-seat : goal.returns-clause-seat
returns-clause-seat g c = calls_twice _ _ _ _ _ _ c.in_ok-bring_lane.ensures.seat c.bring_lane-2.ensures.seat

pub returns-clause-whole : goal.returns-clause-whole
returns-clause-whole g c =
    let charter = g.P.SharedCalls.charter c.args.peers.now in
    let d = c.args.d.0 in
    let gateway = whole_more charter d lane.Gateway _ _ (c.bring_lane-2.ensures.seat.knows d lane.Gateway) c.in_ok-bring_lane.ensures.whole in
    if_ok _ _ c.bring_lane-2.result (λ u whole. both (λ (l : Lane). HasWhole charter d l (g.P.SharedCalls.known c.bring_lane-2.new.seat d l)) gateway whole) c.bring_lane-2.ensures.whole
