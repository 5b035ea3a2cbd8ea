use Rattle.std.proofs.Common.{◌≡◌, ℕ}
use Rattle.crossbeam_channel.specs.Claims.{IsSeatAt}
use Rattle.crossbeam_channel.specs.Ends.{receives_on}
use Rattle.replica_worker.specs.Cache.{AreSessionsOf}
use Rattle.pool_work.specs.Stores.{TakesOver}
use Rattle.pool_work.proofs.desk.Desk.work_by.Given as goal

abbrev pub invariant-loop : goal.invariant-loop
invariant-loop g l = record {
  can_next : (goal.iterator-loop g).can_next l.iterator';
  is_finite : (goal.iterator-loop g).is_finite l.iterator';
  same : l.store.rows ≡ l.self.rows.now;
  row_speaks : (n : ℕ) → g.T.SharedRows.speaks l.fn.seats.rows n → g.T.SharedRows.speaks l.store.seat n;
  seat : TakesOver (g.P.SharedCalls.is_seat l.self.peers.now) g.P.SharedCalls.speaks l.fn.seats.peers l.seat;
  place : IsSeatAt (receives_on l.ends) l.place;
  remembers : AreSessionsOf (g.T.SharedRows.charter l.store.rows) l.replica.cache;
}
