use Rattle.std.proofs.Common.{◌+◌, ◌∙◌, arith}
use Rattle.pool_rows.specs.Laws.{calls_twice}
use Rattle.pool_ends.proofs.Calls.{lanes_more}
use Rattle.pool_ends.proofs.lanes.bring_lanes.Goals as goal

pub bring_device-requires-clause-journal : goal.bring_device-requires-clause-journal
bring_device-requires-clause-journal g c =
    let d = c.loop-index.index + 1 in
    let low = c.loop-index-test.true in
    let alone = c.requires.journals d (omega arith, omega (arith, low)) in
    ◌∙◌ {b = g.T.SharedRows.journal c.args.closed.now d} c.journal.ensures.value alone

pub returns-in_err-bring_device-clause-seat : goal.returns-in_err-bring_device-clause-seat
returns-in_err-bring_device-clause-seat g c = calls_twice _ _ _ _ _ _ c.loop-index.invariant.seat c.bring_device.ensures.seat

pub loop-index-preserved : goal.loop-index-preserved
loop-index-preserved g c =
    let charter = g.P.SharedCalls.charter c.args.peers.now in
    record {
      seat = calls_twice _ _ _ _ _ _ c.loop-index.invariant.seat c.bring_device.ensures.seat;
      whole = lanes_more charter c.loop-index.index (g.P.SharedCalls.known c.loop-index.seat) (g.P.SharedCalls.known c.bring_device.new.seat) c.bring_device.ensures.seat.knows c.loop-index.invariant.whole c.in_ok-bring_device.ensures.whole;
    }
