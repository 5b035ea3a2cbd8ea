use Rattle.std.proofs.Common.{rules, ◌≡◌, ◌-◌, ◌∙◌, Some, ap, length, refl, sym}
use Rattle.std.proofs.lemmas.Option.{slice_get_read}
use Rattle.pool_work.proofs.Packets.{line_is, message_packet}
use Rattle.pool_work.proofs.line.message_at.Goals as goal

pub returns : goal.returns
returns c =
    let ms = c.messages_of-messages.result.now in
    let item = slice_get_read ms (length ms) c.in-Ok.at c.in-Some.message.now refl c.in-Some.ensures.lookup.3.0 c.in-Some.ensures.lookup.1 in
    let same : c.in_ok-copy.field-0 ≡ c.in-Some.message.now = (search rules) in
    message_packet c.args.charter.now c.args.d ms c.in-Ok.at c.in_ok-copy.field-0 c.requires c.messages_of-messages.ensures.line (line_is c.args.charter.now (c.args.d.0 - 1) ms c.messages_of-messages.ensures.charter c.messages_of-messages.ensures.line) (item ∙ ap Some (sym same))
