-- Where an IE is lacking that the message needs, it is refused at the end of the octets.
use Rattle.std.proofs.Common.{◌≡◌, take, sym, ap, ◌∙◌}
use Rattle.std.proofs.lemmas.List.{take_at}
use Rattle.s1ap_pdu.specs.Messages.{rows_of}
use Rattle.protocol_ies.specs.Slots.{lacking}
use Rattle.s1ap_pdu.proofs.Found.{found_lacking}
use Rattle.s1ap_pdu.proofs.reading.find_message.Goals as goal

pub returns-in-Some : goal.returns-in-Some
returns-in-Some c =
    let rows_are : c.rows.result.now ≡ rows_of c.in_ok-kind.kind = c.rows.ensures ∙ ap (take c.ies_of.result.len) c.ies_of.ensures.rows ∙ take_at (rows_of c.in_ok-kind.kind) _ c.ies_of.result.len (sym c.ies_of.ensures.len) in
    found_lacking c.args.bytes.now (c.in_ok-kind.kind, c.in_ok-kind.slots) c.in-Some.id (sym c.in_ok-kind.ensures) (ap (λ rows. lacking rows c.in_ok-kind.slots) (sym rows_are) ∙ ap (lacking c.rows.result.now) (sym c.values.ensures) ∙ sym c.in-Some.ensures)
