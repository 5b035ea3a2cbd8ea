use Rattle.std.proofs.Common.{rules}
use Rattle.shard_parts.proofs.kept.commit_copied.Goals as goal

pub returns-clause-commit : goal.returns-clause-commit
returns-clause-commit g c = search rules
