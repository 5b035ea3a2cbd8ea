use Rattle.session_store.proofs.Repeats.{repeat_told}
use Rattle.session_store.proofs.looks.peeked_of.Goals as goal

pub returns-clause-told : goal.returns-clause-told
returns-clause-told c = repeat_told c.args.row.now.journal c.args.asked c.look_to-look.result c.in_ok-repeated_reply.field-0 c.requires c.look_to-look.ensures c.in_ok-repeated_reply.ensures
