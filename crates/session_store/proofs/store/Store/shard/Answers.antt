use Rattle.std.proofs.Common.{subst}
use Rattle.session_store.specs.Rows.{StoreState, AreLawful}
use Rattle.session_store.proofs.Shards.{shard_in}
use Rattle.session_store.proofs.store.Store.shard.Goals as goal

pub returns-clause-here : goal.returns-clause-here
returns-clause-here g c = (shard_in c.self.invariant.placed c.self.view_is c.requires c.shard_of.ensures c.index.ensures).here

pub returns-clause-row : goal.returns-clause-row
returns-clause-row g c = (shard_in c.self.invariant.placed c.self.view_is c.requires c.shard_of.ensures c.index.ensures).row

pub returns-clause-lawful : goal.returns-clause-lawful
returns-clause-lawful g c = subst (λ (s : StoreState). AreLawful (g.L.RowLaw.follows s.charter) s.rows) c.self.view_is c.self.invariant.lawful
