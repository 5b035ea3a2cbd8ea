-- A number behind the head of an IE is the IE of that identity.
use Rattle.std.proofs.Common.{arith}
use Rattle.aper_octets.specs.Octets.{number_octets}
use Rattle.s1ap_messages.proofs.UsualWrite.{ie_put, number_length}
use Rattle.s1ap_messages.proofs.usual.values.put_id.Goals as goal
use Rattle.protocol_ies.specs.Criticalities.{criticality_number}

pub returns : goal.returns
returns c = ie_put _ _ _ (number_octets 0 64 c.args.n) c.args.id (criticality_number c.args.criticality) _ c.in_ok-put_ie.ensures c.in_ok-put_number.ensures (omega (arith, c.octets_in.ensures.count, number_length 0 64 c.args.n))
