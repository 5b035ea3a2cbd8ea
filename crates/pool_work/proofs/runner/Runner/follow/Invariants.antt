use Rattle.replica_worker.specs.Cache.{AreSessionsOf}
use Rattle.pool_work.specs.Stores.{Kept, TakesOver}
use Rattle.pool_work.proofs.runner.Runner.follow.Given as goal

abbrev pub invariant-loop : goal.invariant-loop
invariant-loop g l = record {
  can_next : (goal.iterator-loop g).can_next l.iterator';
  is_finite : (goal.iterator-loop g).is_finite l.iterator';
  store : Kept g.T.SharedRows.speaks g.T.SharedRows.known l.initial.store l.store;
  seat : TakesOver (g.P.SharedCalls.is_seat l.self.peers.now) g.P.SharedCalls.speaks l.initial.seat l.seat;
  remembers : AreSessionsOf (g.T.SharedRows.charter l.store.rows) l.replica.cache;
}
