-- What is written for a message that is right and whose strings are octets spells it.
use Rattle.s1ap_pdu.proofs.Whole.{written_spelled}
use Rattle.s1ap_pdu.proofs.laws.written_is_spelled.Goals as goal

pub returns : goal.returns
returns c = written_spelled
