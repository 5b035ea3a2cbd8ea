use Rattle.store_shared.proofs.StoreCalls.{begins}
use Rattle.store_shared.proofs.store_shard.StoreShard.new.Goals as goal

pub invariant_of-result : goal.invariant_of-result
invariant_of-result g c = record { kept = begins c.in_ok-shard.shard c.new-2.result.items c.in_ok-shard.ensures.opening c.new-2.ensures.items }
