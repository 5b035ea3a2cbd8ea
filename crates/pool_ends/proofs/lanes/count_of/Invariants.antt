use Rattle.std.proofs.Common.{◌≡◌, ◌+◌, drop}
use Rattle.device_types.specs.Journal.{pushed_count}
use Rattle.pool_ends.proofs.lanes.count_of.Given as goal

abbrev pub invariant-loop-entry : goal.invariant-loop-entry
invariant-loop-entry l = l.count + pushed_count l.lane (drop l.entry-index l.journal) ≡ pushed_count l.lane l.journal
