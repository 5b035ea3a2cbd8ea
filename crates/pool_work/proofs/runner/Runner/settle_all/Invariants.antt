use Rattle.std.proofs.Common.{◌≤◌, ℕ}
use Rattle.pool_ends.specs.Ends.{IsWhole}
use Rattle.replica_worker.specs.Cache.{AreSessionsOf}
use Rattle.pool_work.specs.Stores.{Kept, TakesOver}
use Rattle.pool_work.proofs.runner.Runner.settle_all.Given as goal

abbrev pub invariant-loop-i : goal.invariant-loop-i
invariant-loop-i g l = record {
  store : Kept g.T.SharedRows.speaks g.T.SharedRows.known l.initial.store l.store;
  seat : TakesOver (g.P.SharedCalls.is_seat l.self.peers.now) g.P.SharedCalls.speaks l.initial.seat l.seat;
  remembers : AreSessionsOf (g.T.SharedRows.charter l.store.rows) l.replica.cache;
  whole : (d : ℕ) → 1 ≤ d → d ≤ l.i → IsWhole (g.P.SharedCalls.charter l.self.peers.now) d (g.T.SharedRows.known l.store.seat d).journal;
}
