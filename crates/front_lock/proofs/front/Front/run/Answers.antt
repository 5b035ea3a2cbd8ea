use Rattle.std.proofs.Common.{rules}
use Rattle.front_lock.proofs.front.Front.run.Goals as goal

pub returns-clause-runs : goal.returns-clause-runs
returns-clause-runs g c = search rules
