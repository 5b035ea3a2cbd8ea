-- A counted string behind the head of an IE is the IE of that string.
use Rattle.aper_octets.specs.Octets.{counted}
use Rattle.s1ap_messages.proofs.UsualWrite.{ie_put}
use Rattle.s1ap_messages.proofs.usual.strings.put_text.Goals as goal
use Rattle.protocol_ies.specs.Criticalities.{criticality_number}

pub returns : goal.returns
returns c = ie_put _ _ _ (counted c.args.text.now) c.args.id (criticality_number c.args.criticality) _ c.in_ok-put_ie.ensures c.in_ok-put_counted.ensures c.counted_len.ensures.len
