use Rattle.pool_work.specs.Stores.{Kept}
use Rattle.pool_work.proofs.bring.carry_downs.Given as goal

abbrev pub invariant-loop-k : goal.invariant-loop-k
invariant-loop-k g l = Kept g.T.SharedRows.speaks g.T.SharedRows.known l.initial.store l.store
