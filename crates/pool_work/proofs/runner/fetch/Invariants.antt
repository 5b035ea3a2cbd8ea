use Rattle.std.proofs.Common.{◌≤◌}
use Rattle.pool_work.specs.Stores.{Kept, TakesOver}
use Rattle.pool_work.proofs.runner.fetch.Given as goal

abbrev pub invariant-loop : goal.invariant-loop
invariant-loop g l = record {
  can_next : (goal.iterator-loop g).can_next l.iterator';
  is_finite : (goal.iterator-loop g).is_finite l.iterator';
  store : Kept g.T.SharedRows.speaks g.T.SharedRows.known l.initial.store l.store;
  seat : TakesOver (g.P.SharedCalls.is_seat l.peers) g.P.SharedCalls.speaks l.initial.seat l.seat;
  number : 1 ≤ l.next;
}
