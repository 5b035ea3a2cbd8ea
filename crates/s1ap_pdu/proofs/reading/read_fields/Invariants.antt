-- At each turn: reading the IEs that are left, with the slots filled so far, gives what reading all of them from the first with empty slots gives.
use Rattle.std.proofs.Common.{◌≡◌}
use Rattle.protocol_ies.specs.Slots.{empty}
use Rattle.s1ap_pdu.specs.Reading.{fields_at}
use Rattle.s1ap_pdu.proofs.reading.read_fields.Given as goal

abbrev pub invariant-loop-left : goal.invariant-loop-left
invariant-loop-left l = fields_at l.rows l.left l.slots l.ahead ≡ fields_at l.fn.rows l.fn.count empty l.fn.r

abbrev pub decreases-loop-left : goal.decreases-loop-left
decreases-loop-left l = l.left
