use Rattle.pool_work.specs.Stores.{Kept, TakesOver}
use Rattle.worker_pool.proofs.mover.carry_marked.Given as goal

abbrev pub invariant-loop-word : goal.invariant-loop-word
invariant-loop-word g l = record {
  store : Kept g.T.SharedRows.speaks g.T.SharedRows.known l.initial.store l.store;
  seat : TakesOver (g.P.SharedCalls.is_seat l.desk.peers.now) g.P.SharedCalls.speaks l.initial.seat l.seat;
}
