-- Octets in the usual form of a message are read as that message, since they are what is written for it.
use Rattle.std.proofs.Common.{arith}
use Rattle.s1ap_messages.proofs.UsualForm.{usual_reads}
use Rattle.s1ap_messages.proofs.usual.read_usual.Goals as goal

pub returns : goal.returns
returns c = usual_reads _ c.args.octets.now (λ i. omega (arith, c.type_inv.octets i)) c.find_usual.ensures
