-- A message that is found, that an MME receives, and that is made, is the one that is read.
use Rattle.std.proofs.Common.{sym, ◌∙◌}
use Rattle.s1ap_pdu.proofs.Found.{uplink_ok}
use Rattle.s1ap_pdu.proofs.reading.receive_pieces.Goals as goal

pub returns : goal.returns
returns c = uplink_ok c.args.bytes.now (c.in_ok-kind.kind, c.in_ok-kind.slots) c.in_ok-message.field-0 c.in_ok-kind.ensures (sym c.is_downlink.ensures ∙ c.if-is_downlink.false) c.in_ok-message.ensures
