use Rattle.texts_cases.proofs.entry_edge_downs.tell_downs.Goals as goal

pub tell-requires-clause-down : goal.tell-requires-clause-down
tell-requires-clause-down c = c.paged.ensures c.args.row.now
