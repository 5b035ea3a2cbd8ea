use Rattle.std.proofs.Common.{length, refl}
use Rattle.entry_edge.proofs.SeenLaws.{admitted_seen, refused_seen}
use Rattle.entry_edge.proofs.admission.take_line.Goals as goal

pub note-requires : goal.note-requires
note-requires c = (length c.args.table.now, c.requires.0, c.requires.1.bindings, c.in-Ok.ensures.within c.requires.0 c.requires.1.bindings)

pub add_message-requires : goal.add_message-requires
add_message-requires c = rw c.requires.1.lines.count (c.in-Ok.ensures.within c.requires.0 c.requires.1.bindings)

pub returns-in_ok-add_message-in-Ok : goal.returns-in_ok-add_message-in-Ok
returns-in_ok-add_message-in-Ok c = λ H seen.
    let kept = c.in_ok-note-in-Ok.ensures (length c.args.table.now) H seen.bindings in
    admitted_seen c.args.table.now H c.args.line.now c.in-Ok.t c.args.state.now _ seen (c.in-Ok.ensures.taken H seen.bindings) (c.in-Ok.ensures.within H seen.bindings) kept c.in_ok-add_message-in-Ok.ensures refl

pub returns-in_ok-add_refused-in-Err-Refused : goal.returns-in_ok-add_refused-in-Err-Refused
returns-in_ok-add_refused-in-Err-Refused c = λ H seen.
    let told = c.in-Err-Refused.ensures.taken H seen.bindings in
    refused_seen c.args.table.now H c.args.line.now c.in-Err-Refused.refusal c.args.state.now _ seen (rw c.in-Err-Refused.field-0-is at told) seen.bindings seen.lines c.in_ok-add_refused-in-Err-Refused.ensures
