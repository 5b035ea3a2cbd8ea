-- A value that is written behind the start of its IE, and counted then, gives that IE whole; it is short enough to be counted.
use Rattle.std.proofs.lemmas.Result.{on_ok_weaker}
use Rattle.protocol_ies.specs.Criticalities.{criticality_number}
use Rattle.s1ap_pdu.specs.Values.{seen}
use Rattle.s1ap_pdu.specs.Run.{ie_run, value_run, IsRightField}
use Rattle.s1ap_pdu.proofs.Ies.{value_periodic}
use Rattle.aper_fields.proofs.InPlace.{content_short, item_in_place}
use Rattle.s1ap_pdu.proofs.writing.write_ie.Goals as goal

pub end_open-requires-clause-few : goal.end_open-requires-clause-few
end_open-requires-clause-few c =
    let v = seen c.in-Some.value in
    let right : IsRightField v = rw c.in-Some.is at c.requires.right in
    content_short c.begin_item.new.w c.write_value.new.w (value_run v) c.in_ok-start.start (value_periodic v) c.in_ok-start.ensures.place c.in_ok-start.ensures.whole c.in_ok-write_value.ensures right.1

pub returns : goal.returns
unfolding ie_run
returns c =
    let v = seen c.in-Some.value in
    rw c.in-Some.is (on_ok_weaker c.end_open.result (item_in_place c.args.w.now c.begin_item.new.w c.write_value.new.w c.end_open.new.w c.args.row.now.id (criticality_number c.args.row.now.criticality) (value_run v) c.in_ok-start.start (value_periodic v) c.in_ok-start.ensures.ok c.in_ok-start.ensures.place c.in_ok-write_value.ensures) c.end_open.ensures.ok)
