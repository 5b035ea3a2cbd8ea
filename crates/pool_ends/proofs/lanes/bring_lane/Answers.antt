use Rattle.std.proofs.Common.{◌<◌, ◌^◌, List, arith, subst, sym}
use Rattle.device_types.specs.declared.step.Entry.{Entry}
use Rattle.device_types.specs.Journal.{pushed_count}
use Rattle.pool_rows.specs.Laws.{calls_twice}
use Rattle.pool_rows.proofs.Charters.{lane_few, line_at}
use Rattle.pool_ends.proofs.lanes.bring_lane.Goals as goal

pub count_of-count-requires : goal.count_of-count-requires
count_of-count-requires g c =
    let charter = g.P.SharedCalls.charter c.args.peers.now in
    let few = lane_few charter c.args.d.0 c.args.lane (line_at charter c.args.d.0 c.charter.ensures.in_form c.requires.device) in
    subst (λ (j : List Entry). pushed_count c.args.lane j < 2 ^ 64) (sym c.requires.journal) (omega (arith, few))

pub returns-in_err-bring_call-clause-seat : goal.returns-in_err-bring_call-clause-seat
returns-in_err-bring_call-clause-seat g c = calls_twice _ _ _ _ _ _ c.loop-k.invariant.seat c.bring_call-in-loop-k.ensures.seat

pub loop-k-preserved : goal.loop-k-preserved
loop-k-preserved g c =
    let count = c.loop-k.invariant.count in
    record {
      seat = calls_twice _ _ _ _ _ _ c.loop-k.invariant.seat c.bring_call-in-loop-k.ensures.seat;
      count = c.in_ok-bring_call.ensures.next (omega (arith, count));
    }
