use Rattle.std.proofs.Common.{◌≡◌}
use Rattle.replica_worker.specs.Cache.{AreSessionsOf}
use Rattle.rows_cases.specs.Services.{service_charter}
use Rattle.rows_cases.proofs.replica_worker_calls.turns.Given as goal

abbrev pub invariant-loop-n : goal.invariant-loop-n
invariant-loop-n g l = (g.S.RowStore.charter l.store ≡ service_charter l.row) × (g.S.RowStore.devices l.store ≡ 1) × AreSessionsOf (g.S.RowStore.charter l.store) l.replica.cache
