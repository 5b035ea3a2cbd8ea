use Rattle.std.proofs.Common.{ℕ}
use Rattle.device_types.specs.declared.event.Lane.{Lane}
use Rattle.device_types.specs.Event.{IsCallLane}
use Rattle.session_store.specs.Rows.{IsDevice}
use Rattle.pool_rows.specs.Seats.{GoesOn, KnowsCalls}
use Rattle.pool_ends.specs.Lanes.{HasWhole}
use Rattle.pool_ends.proofs.lanes.bring_lanes.Given as goal

abbrev pub invariant-loop-index : goal.invariant-loop-index
invariant-loop-index g l = record {
  seat : GoesOn (g.P.SharedCalls.is_seat l.peers) g.P.SharedCalls.speaks (KnowsCalls g.P.SharedCalls.known) l.initial.seat l.seat;
  whole : (d : ℕ) (m : Lane) → IsDevice l.index d → IsCallLane m → HasWhole (g.P.SharedCalls.charter l.peers) d m (g.P.SharedCalls.known l.seat d m);
}
