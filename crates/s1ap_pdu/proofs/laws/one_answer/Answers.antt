-- Octets are one message or have one refusal, never both; behind a message more octets are refused at the first, so no spelling begins another.
use Rattle.s1ap_pdu.proofs.Answering.{one_message, one_refusal, not_both, either_one, trailing, one_front}
use Rattle.s1ap_pdu.proofs.laws.one_answer.Goals as goal

pub returns-clause-message : goal.returns-clause-message
returns-clause-message c = one_message

pub returns-clause-refusal : goal.returns-clause-refusal
returns-clause-refusal c = one_refusal

pub returns-clause-not_both : goal.returns-clause-not_both
returns-clause-not_both c = not_both

pub returns-clause-either : goal.returns-clause-either
returns-clause-either c = either_one

pub returns-clause-trailing : goal.returns-clause-trailing
returns-clause-trailing c = trailing

pub returns-clause-front : goal.returns-clause-front
returns-clause-front c = one_front
