use Rattle.texts_cases.proofs.entry_edge_downs.tell_setups.Goals as goal

pub tell-requires-2-clause-down : goal.tell-requires-2-clause-down
tell-requires-2-clause-down c = c.set_up.ensures c.args.row.now
