use Rattle.std.proofs.Common.{vec_len}
use Rattle.front_lock.proofs.Columns.{Deals}
use Rattle.front_lock.proofs.fronts.deal_out.Given as goal

abbrev pub invariant-loop-seat : goal.invariant-loop-seat
invariant-loop-seat g l = Deals l.fn.made.items l.fn.column.items l.made.items l.column.items

abbrev pub decreases-loop-seat : goal.decreases-loop-seat
decreases-loop-seat g l = vec_len l.column
