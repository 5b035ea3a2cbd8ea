-- An item that is written behind the start of its item, and counted then, gives that item whole; it is short enough to be counted.
use Rattle.std.proofs.lemmas.Result.{on_ok_weaker}
use Rattle.protocol_ies.specs.Criticalities.{criticality_number}
use Rattle.aper_fields.specs.Asn1.{run}
use Rattle.aper_fields.proofs.Types.{periodic}
use Rattle.protocol_ies.proofs.Items.{item_short}
use Rattle.aper_fields.proofs.InPlace.{content_short, item_in_place}
use Rattle.protocol_ies.proofs.list.write_one.Goals as goal

pub end_open-requires-clause-few : goal.end_open-requires-clause-few
end_open-requires-clause-few g c =
    let asn1 = g.T.Item.asn1 in
    let v = c.args.item.now in
    content_short c.begin_item.new.w c.write_item.new.w (run asn1 v) c.in_ok-start.start (periodic asn1 v) c.in_ok-start.ensures.place c.in_ok-start.ensures.whole c.in_ok-write_item.ensures (item_short asn1 g.met.T.Item.sound v c.requires)

pub returns : goal.returns
returns g c =
    let asn1 = g.T.Item.asn1 in
    let v = c.args.item.now in
    on_ok_weaker c.end_open.result (item_in_place c.args.w.now c.begin_item.new.w c.write_item.new.w c.end_open.new.w c.args.id (criticality_number c.args.criticality) (run asn1 v) c.in_ok-start.start (periodic asn1 v) c.in_ok-start.ensures.ok c.in_ok-start.ensures.place c.in_ok-write_item.ensures) c.end_open.ensures.ok
