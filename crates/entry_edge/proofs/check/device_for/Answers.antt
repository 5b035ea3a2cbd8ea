use Rattle.std.proofs.Common.{length}
use Rattle.entry_edge.proofs.check.device_for.Goals as goal

pub returns-in-Numbered-clause-device : goal.returns-in-Numbered-clause-device
returns-in-Numbered-clause-device c = λ H k. rw c.in-Numbered.is (c.agreed.ensures.agreed (length c.args.table.now) H k)

pub returns-in-Numbered-clause-within : goal.returns-in-Numbered-clause-within
returns-in-Numbered-clause-within c = c.agreed.ensures.within (length c.args.table.now)
