-- What the reader of a kind found is the whole message in its usual form, header and length with it.
use Rattle.s1ap_messages.proofs.UsualForm.{usual_body}
use Rattle.s1ap_messages.proofs.usual.find_usual.Goals as goal

pub returns : goal.returns
returns c = let h = c.in_ok-outcome in usual_body c.in_ok-kind.kind c.fields.result c.args.octets.now h.ies.now h.outcome h.code h.criticality h.count h.ensures.octets h.ensures.few c.in_ok-kind.ensures c.fields.ensures
