use Rattle.std.proofs.Common.{◌≤◌, vec_len, vec_capacity, length}
use Rattle.front_lock.specs.Turns.{IsClosed}
use Rattle.front_lock.specs.Front.{view, basis_of, seats_of}
use Rattle.front_lock.proofs.Columns.{Closing}
use Rattle.front_lock.proofs.fronts.close_each.Given as goal

abbrev pub invariant-loop-front : goal.invariant-loop-front
invariant-loop-front g l = record {
  closing : Closing (λ f s y. IsClosed g.T.Held.turns g.T.Held.basis g.T.Held.by (basis_of g.T.Held.basis f) (seats_of f) (view s) y) l.fn.fronts.items l.fn.seats.items l.fronts.items l.seats.items l.values.items;
  room : length l.fn.fronts.items ≤ vec_capacity l.values;
}

abbrev pub decreases-loop-front : goal.decreases-loop-front
decreases-loop-front g l = vec_len l.fronts
