-- IEs that are written in place behind the header, and counted then, make the octets of the message; they are short enough to be counted.
use Rattle.std.proofs.Common.{◌∙◌}
use Rattle.s1ap_pdu.specs.Messages.{kind_of, values_of}
use Rattle.s1ap_pdu.specs.Run.{ies_run}
use Rattle.s1ap_pdu.proofs.Whole.{ies_periodic}
use Rattle.aper_fields.proofs.InPlace.{content_short}
use Rattle.s1ap_pdu.proofs.InPlace.{message_in_place}
use Rattle.s1ap_pdu.proofs.writing.write_pieces.Goals as goal

pub end_open-requires-clause-few : goal.end_open-requires-clause-few
end_open-requires-clause-few c =
    let kind = kind_of c.args.p.now in
    let values = values_of c.args.p.now in
    content_short c.begin_open.new.w c.write_body.new.w (ies_run kind values) c.in_ok-start.start (ies_periodic kind values) c.in_ok-start.ensures.place c.in_ok-start.ensures.whole c.in_ok-write_body.ensures c.requires.1

pub returns : goal.returns
returns c =
    let head = rw (c.new-w.ensures, c.header_of.ensures, c.kind.ensures) at c.in_ok-write_header.ensures in
    c.from.ensures ∙ c.into_bytes.ensures ∙ message_in_place c.args.p.now c.write_header.new.w c.begin_open.new.w c.write_body.new.w c.end_open.new.w c.in_ok-start.start head c.in_ok-start.ensures.ok c.in_ok-start.ensures.place c.in_ok-write_body.ensures c.in_ok-end_open.ensures.ok
