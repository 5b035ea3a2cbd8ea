use Rattle.std.proofs.Common.{subst}
use Rattle.session_store.specs.Shards.{ShardState, AreLawfulHere}
use Rattle.session_store.proofs.shard.Shard.charter.Goals as goal

pub returns-clause-lawful : goal.returns-clause-lawful
returns-clause-lawful g c = subst (λ (s : ShardState). AreLawfulHere (g.L.RowLaw.follows s.charter) s) c.self.view_is c.self.invariant.lawful
