-- Two numbers behind the head of an IE are the octets of both identities.
use Rattle.std.proofs.Common.{arith}
use Rattle.protocol_ies.specs.Criticalities.{criticality_number}
use Rattle.aper_octets.specs.Octets.{number_octets}
use Rattle.s1ap_messages.specs.Usual.{ids_octets}
use Rattle.s1ap_messages.proofs.UsualWrite.{two_put, number_length}
use Rattle.s1ap_messages.proofs.usual.values.put_pair.Goals as goal

pub returns : goal.returns
unfolding ids_octets
returns c = two_put _ _ _ _ (number_octets 0 4 c.args.mme) (number_octets 0 64 c.args.enb) c.args.id (criticality_number c.args.criticality) _ c.in_ok-put_ie.ensures c.in_ok-put_number.ensures c.in_ok-put_number-2.ensures (omega (arith, c.octets_in.ensures.count, c.octets_in-2.ensures.count, number_length 0 4 c.args.mme, number_length 0 64 c.args.enb))
