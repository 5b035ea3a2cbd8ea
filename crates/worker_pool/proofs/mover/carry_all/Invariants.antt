use Rattle.std.proofs.Common.{◌≡◌, ℕ}
use Rattle.pool_work.specs.Stores.{TakesOver}
use Rattle.worker_pool.proofs.mover.carry_all.Given as goal

abbrev pub invariant-loop : goal.invariant-loop
invariant-loop g l = record {
  can_next : (goal.iterator-loop g).can_next l.iterator';
  is_finite : (goal.iterator-loop g).is_finite l.iterator';
  same : l.store.rows ≡ l.desk.rows.now;
  row_speaks : (n : ℕ) → g.T.SharedRows.speaks l.fn.seats.rows n → g.T.SharedRows.speaks l.store.seat n;
  seat : TakesOver (g.P.SharedCalls.is_seat l.desk.peers.now) g.P.SharedCalls.speaks l.fn.seats.peers l.seat;
}
