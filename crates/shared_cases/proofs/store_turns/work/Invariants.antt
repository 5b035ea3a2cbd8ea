use Rattle.front_lock.specs.FrontRow.{AreSeatsOf}
use Rattle.store_shared.specs.StoreBases.{store_basis}
use Rattle.shared_cases.proofs.store_turns.work.Given as goal

abbrev pub invariant-loop-index : goal.invariant-loop-index
invariant-loop-index g l = AreSeatsOf store_basis l.store.fronts.fronts.items l.seat.seats.items
