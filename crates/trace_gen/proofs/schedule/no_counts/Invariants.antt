use Rattle.std.proofs.Common.{◌≡◌, replicate}
use Rattle.trace_gen.specs.State.{none}
use Rattle.trace_gen.proofs.schedule.no_counts.Given as goal

abbrev pub invariant-loop-device : goal.invariant-loop-device
invariant-loop-device l = l.counts.items ≡ replicate l._device none
