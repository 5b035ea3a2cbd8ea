use Rattle.std.proofs.Common.{rules}
use Rattle.shard_parts.proofs.place.place_of.Goals as goal

pub returns : goal.returns
returns c = search rules
