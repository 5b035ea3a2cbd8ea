use Rattle.texts_cases.proofs.report_text_calls.released_downs.Goals as goal

pub push_down-requires-3-clause-down : goal.push_down-requires-3-clause-down
push_down-requires-3-clause-down c = c.release.ensures c.args.row.now

pub push_down-requires-4-clause-down : goal.push_down-requires-4-clause-down
push_down-requires-4-clause-down c = c.release-2.ensures c.args.row.now
