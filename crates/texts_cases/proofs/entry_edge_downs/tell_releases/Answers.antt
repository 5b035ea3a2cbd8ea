use Rattle.texts_cases.proofs.entry_edge_downs.tell_releases.Goals as goal

pub tell-requires-clause-down : goal.tell-requires-clause-down
tell-requires-clause-down c = c.released-down.ensures c.args.row.now

pub tell-requires-2-clause-down : goal.tell-requires-2-clause-down
tell-requires-2-clause-down c = c.released-down-2.ensures c.args.row.now

pub tell-requires-3-clause-down : goal.tell-requires-3-clause-down
tell-requires-3-clause-down c = c.released-down-3.ensures c.args.row.now
