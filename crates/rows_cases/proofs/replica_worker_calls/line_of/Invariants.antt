use Rattle.std.proofs.Common.{◌≡◌}
use Rattle.rows_cases.specs.Services.{services}
use Rattle.rows_cases.proofs.replica_worker_calls.line_of.Given as goal

abbrev pub invariant-loop-index : goal.invariant-loop-index
invariant-loop-index l = l.line ≡ services l.index
