-- Octets are read as the grammar of what an MME receives has it, refusals too, and what is read can be written; memory runs out only where it takes some.
use Rattle.std.proofs.Common.{subst}
use Rattle.echo_base.specs.Answer.{IsAnswer}
use Rattle.s1ap_pdu.specs.Grammar.{SpellsUplink, RefusedUplink}
use Rattle.s1ap_pdu.specs.Built.{uplink_at}
use Rattle.s1ap_pdu.proofs.Right.{message_right, answer_right}
use Rattle.s1ap_pdu.proofs.Exact.{uplink_answers, only_uplink}
use Rattle.s1ap_pdu.proofs.Found.{read_answer, refused_received, short_received}
use Rattle.s1ap_messages.proofs.reading.read_uplink.Goals as goal

pub returns-clause-reading : goal.returns-clause-reading
returns-clause-reading c = read_answer (uplink_at c.args.bytes.now) c.read_received.result c.read_received.ensures

pub returns-clause-answers : goal.returns-clause-answers
returns-clause-answers c = uplink_answers c.args.bytes.now c.read_received.result (returns-clause-reading c)

pub returns-clause-only : goal.returns-clause-only
returns-clause-only c = λ p s. subst (λ r. IsAnswer r c.read_received.result) (only_uplink c.args.bytes.now p s) (returns-clause-reading c)

pub returns-clause-refused : goal.returns-clause-refused
returns-clause-refused c = λ e due. refused_received c.args.bytes.now c.read_received.result e c.read_received.ensures due

pub returns-clause-memory : goal.returns-clause-memory
returns-clause-memory c = λ e. short_received c.args.bytes.now c.read_received.result c.read_received.ensures e

pub returns-clause-right : goal.returns-clause-right
returns-clause-right c = answer_right (SpellsUplink c.args.bytes.now) (RefusedUplink c.args.bytes.now) (λ p s. (message_right c.args.bytes.now p s.0).0) c.read_received.result (returns-clause-answers c)
