use Rattle.pool_work.specs.Stores.{Kept, TakesOver}
use Rattle.worker_pool.proofs.mover.carry_word.Given as goal

abbrev pub invariant-loop-bit : goal.invariant-loop-bit
invariant-loop-bit g l = record {
  store : Kept g.T.SharedRows.speaks g.T.SharedRows.known l.initial.store l.store;
  seat : TakesOver (g.P.SharedCalls.is_seat l.desk.peers.now) g.P.SharedCalls.speaks l.initial.seat l.seat;
}
