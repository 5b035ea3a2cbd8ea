use Rattle.std.proofs.Common.{rules}
use Rattle.shard_parts.proofs.kept.read_twice.Goals as goal

pub returns-clause-value : goal.returns-clause-value
returns-clause-value g c = search rules
