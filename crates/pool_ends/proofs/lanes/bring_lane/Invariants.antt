use Rattle.std.proofs.Common.{◌≤◌, length}
use Rattle.pool_rows.specs.Seats.{GoesOn, KnowsCalls}
use Rattle.pool_ends.proofs.lanes.bring_lane.Given as goal

abbrev pub invariant-loop-k : goal.invariant-loop-k
invariant-loop-k g l = record {
  seat : GoesOn (g.P.SharedCalls.is_seat l.peers) g.P.SharedCalls.speaks (KnowsCalls g.P.SharedCalls.known) l.fn.seat l.seat;
  count : l.k ≤ length (g.P.SharedCalls.known l.seat l.fn.d.0 l.fn.lane);
}
