-- The octets spell the message of the sample, so reading gives that, and is never refused.
use Rattle.codec_bench.proofs.Written.{wanted_is_read, none_for_memory}
use Rattle.codec_bench.proofs.turns.read_again.Goals as goal

pub returns-clause-ok : goal.returns-clause-ok
returns-clause-ok c = wanted_is_read c.args.sample.now.pdu c.read_pdu.result (c.read_pdu.ensures.only c.args.sample.now.pdu (rw c.items.ensures c.requires.0))

pub returns-clause-err : goal.returns-clause-err
returns-clause-err c = none_for_memory c.args.sample.now.pdu c.read_pdu.result (c.read_pdu.ensures.only c.args.sample.now.pdu (rw c.items.ensures c.requires.0))
