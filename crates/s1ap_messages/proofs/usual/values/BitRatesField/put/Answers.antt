-- Two numbers behind the head of an IE are the octets of the bit rates.
use Rattle.std.proofs.Common.{arith}
use Rattle.protocol_ies.specs.Criticalities.{criticality_number}
use Rattle.aper_octets.specs.Octets.{number_octets}
use Rattle.s1ap_messages.specs.Usual.{rates_octets}
use Rattle.s1ap_messages.proofs.UsualWrite.{two_put, number_length}
use Rattle.s1ap_messages.proofs.usual.values.BitRatesField.put.Goals as goal

pub returns : goal.returns
unfolding rates_octets
returns c =
    let v = c.args.self.now in
    two_put _ _ _ _ (number_octets 0 8 v.dl) (number_octets 0 32 v.ul) c.args.id (criticality_number c.args.criticality) _ c.in_ok-put_ie.ensures c.in_ok-put_number.ensures c.in_ok-put_number-2.ensures (omega (arith, c.octets_in.ensures.count, c.octets_in-2.ensures.count, number_length 0 8 v.dl, number_length 0 32 v.ul))
