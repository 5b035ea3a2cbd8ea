use Rattle.std.proofs.Common.{rules}
use Rattle.front_cases.proofs.tally.AddJobTally.run.Goals as goal

pub returns-in-Ok-clause-ok : goal.returns-in-Ok-clause-ok
returns-in-Ok-clause-ok c = search rules
