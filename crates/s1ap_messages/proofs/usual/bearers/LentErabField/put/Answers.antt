-- An E-RAB behind the heads of its list and of its item is a list of one.
use Rattle.protocol_ies.specs.Criticalities.{criticality_number}
use Rattle.s1ap_messages.specs.Lent.{erab_of}
use Rattle.s1ap_messages.proofs.UsualWrite.{setups_put}
use Rattle.s1ap_messages.proofs.usual.bearers.LentErabField.put.Goals as goal

pub returns : goal.returns
returns c = setups_put _ _ _ _ _ (erab_of c.args.self.now) c.args.id (criticality_number c.args.criticality) _ _ c.nas_len-len.ensures.len c.count_len.ensures.len c.in_ok-put_ie.ensures c.in_ok-extend_from_slice.ensures.items c.in_ok-put_ie-2.ensures c.in_ok-put_setup.ensures
