-- A message of small fields in their ranges can be written, as it fits into its open types.
use Rattle.s1ap_pdu.proofs.Small.{small_right}
use Rattle.s1ap_pdu.proofs.laws.small_is_right.Goals as goal

pub returns : goal.returns
returns c = small_right
