use Rattle.texts_cases.proofs.report_text_calls.attached_downs.Goals as goal

pub push_down-requires-5-clause-down : goal.push_down-requires-5-clause-down
push_down-requires-5-clause-down c = c.set_up_both.ensures c.args.row.now
