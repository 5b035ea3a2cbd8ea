-- The first values, as many as the table has rows, are those of the message, so what is written of them is its SEQUENCE of IEs.
use Rattle.s1ap_pdu.specs.Values.{all_seen}
use Rattle.std.proofs.Common.{take}
use Rattle.s1ap_pdu.proofs.Writes.{values_front, body_is}
use Rattle.s1ap_pdu.proofs.writing.write_body.Goals as goal

pub returns : goal.returns
returns c = body_is c.args.p.now c.kind-kind.result (all_seen (take c.ies_of.result.len c.values.result)) c.write_ies.result c.args.w.now c.write_ies.new.w c.kind-kind.ensures (values_front c.args.p.now c.kind-kind.result c.values.result c.ies_of.result.len c.kind-kind.ensures c.ies_of.ensures.len c.values.ensures) c.write_ies.ensures
