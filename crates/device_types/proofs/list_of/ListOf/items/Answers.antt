use Rattle.std.proofs.Common.{rules}
use Rattle.device_types.proofs.list_of.ListOf.items.Goals as goal

pub returns : goal.returns
returns g c = search rules
