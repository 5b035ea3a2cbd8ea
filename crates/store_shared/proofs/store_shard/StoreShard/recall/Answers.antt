use Rattle.store_shared.proofs.StoreTurns.{lawful_in}
use Rattle.store_shared.proofs.store_shard.StoreShard.recall.Goals as goal

pub returns : goal.returns
returns g c = lawful_in (g.L.RowLaw.follows c.args.self.now.shard.charter) c.args.self.now.shard c.args.self.now.turns.items c.args.self.now.kept c.charter.ensures.lawful
