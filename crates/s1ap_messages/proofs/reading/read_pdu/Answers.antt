-- Octets give the message or the refusal that the grammar has for them; what is read can be written, and memory runs out only where it takes some.
use Rattle.std.proofs.Common.{subst}
use Rattle.echo_base.specs.Answer.{IsAnswer}
use Rattle.s1ap_pdu.specs.Grammar.{Spells, Refused}
use Rattle.s1ap_pdu.specs.Built.{message_at}
use Rattle.s1ap_pdu.proofs.Right.{message_right, answer_right}
use Rattle.s1ap_pdu.proofs.Exact.{message_answers, only_message}
use Rattle.s1ap_pdu.proofs.Found.{read_answer, refused_read, short_read}
use Rattle.s1ap_messages.proofs.reading.read_pdu.Goals as goal

pub returns-clause-reading : goal.returns-clause-reading
returns-clause-reading c = read_answer (message_at c.args.bytes.now) c.read_message.result c.read_message.ensures

pub returns-clause-answers : goal.returns-clause-answers
returns-clause-answers c = message_answers c.args.bytes.now c.read_message.result (returns-clause-reading c)

pub returns-clause-only : goal.returns-clause-only
returns-clause-only c = λ p s. subst (λ r. IsAnswer r c.read_message.result) (only_message c.args.bytes.now p s) (returns-clause-reading c)

pub returns-clause-refused : goal.returns-clause-refused
returns-clause-refused c = λ e due. refused_read c.args.bytes.now c.read_message.result e c.read_message.ensures due

pub returns-clause-memory : goal.returns-clause-memory
returns-clause-memory c = λ e. short_read c.args.bytes.now c.read_message.result c.read_message.ensures e

pub returns-clause-right : goal.returns-clause-right
returns-clause-right c = answer_right (Spells c.args.bytes.now) (Refused c.args.bytes.now) (λ p s. (message_right c.args.bytes.now p s).0) c.read_message.result (returns-clause-answers c)
