use Rattle.std.proofs.Common.{rules}
use Rattle.device_types.proofs.list_of.ListOf.push.Goals as goal

pub returns-clause-ok : goal.returns-clause-ok
returns-clause-ok g c = search rules
