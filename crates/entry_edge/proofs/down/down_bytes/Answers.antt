use Rattle.entry_edge.proofs.down.down_bytes.Goals as goal

pub write_pdu-requires : goal.write_pdu-requires
write_pdu-requires c = c.small_is_right.ensures _ c.in_ok-message.ensures.small
