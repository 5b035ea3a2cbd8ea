use Rattle.front_lock.proofs.Items.{if_ok}
use Rattle.pool_rows.proofs.Offers.{fresh_calls}
use Rattle.pool_rows.proofs.Closed.{fresh_speaks, if_both}
use Rattle.pool_rows.proofs.shared_peers.SharedPeersSharedCalls.open.Goals as goal

pub returns-clause-count : goal.returns-clause-count
returns-clause-count c = if_both _ _ _ c.new.result (λ made seated count. (seated, count)) c.new.ensures.seated c.new.ensures.count

pub returns-clause-speaks : goal.returns-clause-speaks
returns-clause-speaks c = if_ok _ _ c.new.result (λ made fresh n s got. fresh_speaks _ _ _ _ n s (fresh n s got)) c.new.ensures.seats

pub returns-clause-fresh : goal.returns-clause-fresh
returns-clause-fresh c = if_ok _ _ c.new.result (λ made fresh. fresh_calls _ _ _ _ made.1.items fresh) c.new.ensures.seats
