use Rattle.std.proofs.Common.{◌≡◌, [], replicate}
use Rattle.replica_worker.specs.declared.hand.Hand.TheVariants.{Empty}
use Rattle.link_schedule.proofs.opening.idle_replicas.Given as goal

abbrev pub invariant-loop : goal.invariant-loop
invariant-loop l = l.replicas.items ≡ replicate l.counter (record { hand = Empty; cache = [] })
