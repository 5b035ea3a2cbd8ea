use Rattle.std.proofs.Common.{length}
use Rattle.worker_pool.proofs.start.Crew.+with_workers.Given as goal

abbrev pub decreases-with_workers : goal.decreases-with_workers
decreases-with_workers g l = length l.row_seats.items
