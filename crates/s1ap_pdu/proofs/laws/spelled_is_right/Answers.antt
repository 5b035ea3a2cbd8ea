-- A message that octets spell can be written: its fields are in their ranges, its open types are short enough, and its strings are octets.
use Rattle.s1ap_pdu.proofs.Right.{message_right}
use Rattle.s1ap_pdu.proofs.laws.spelled_is_right.Goals as goal

pub returns : goal.returns
returns c = message_right
