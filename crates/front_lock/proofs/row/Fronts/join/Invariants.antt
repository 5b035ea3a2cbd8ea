use Rattle.std.proofs.Common.{◌≡◌, vec_len}
use Rattle.front_lock.proofs.Columns.{Joining}
use Rattle.front_lock.proofs.row.Fronts.join.Given as goal

abbrev pub invariant-loop-seat : goal.invariant-loop-seat
invariant-loop-seat g l = record {
  number : l.into.number ≡ l.fn.into.number;
  joining : Joining g.T.Held.basis l.self.fronts.items l.fn.into.seats.items l.fn.from.seats.items l.into.seats.items l.seats.items;
}

abbrev pub decreases-loop-seat : goal.decreases-loop-seat
decreases-loop-seat g l = vec_len l.seats
