-- The final text.
use Rattle.std.specs.Prelude.{◌≡◌, ℕ, ◌-◌, List, [], ◌++◌, length, codes, Option, Some, None, slice_get}
use Rattle.std.specs.Fmt.{decimal}
use Rattle.std.specs.List.{AllZip, flat_map}
use Rattle.echo_base.specs.Refusal.{refusal_text}
use Rattle.device_types.specs.declared.subscriber.Subscriber.{Subscriber}
use Rattle.device_types.specs.declared.subscriber.DeviceId.{DeviceId}
use Rattle.device_types.specs.declared.finals.DeviceEnd.{DeviceEnd}
use Rattle.device_types.specs.Finals.{IsEndOf}
use Rattle.subs_table.specs.Order.{devices_by_imsi}
use Rattle.entry_edge.specs.declared.admission.RefusedLine.{RefusedLine}
use Rattle.report_text.specs.Lines.{ended, numbered}
use Rattle.report_text.specs.Session.{session_text}
use Rattle.report_text.specs.Device.{device_line, sent_line, gateway_line, subscriber_line}

abbrev pub refused_line : RefusedLine → List ℕ
refused_line r = codes "refused " ++ decimal r.line ++ codes " " ++ refusal_text r.refusal

-- what became of a device
unfoldable pub device_text : Subscriber → DeviceEnd → List ℕ
device_text row end = ended (device_line row.imsi end.messages end.steps) ++ numbered (sent_line row) end.downs ++ numbered gateway_line end.gateway ++ numbered subscriber_line end.subscriber ++ session_text end.session

-- an end for each row, whose downs can be written to its device
pub record AreEnds (rows : List Subscriber) (finals : List DeviceEnd) : Type 0 where
  pub count : length finals ≡ length rows
  pub downs : AllZip IsEndOf rows finals

abbrev pub text_of : Option Subscriber → Option DeviceEnd → List ℕ
text_of (Some row) (Some end) = device_text row end
text_of (Some row) None = []
text_of None end = []

abbrev pub text_at : List Subscriber → List DeviceEnd → DeviceId → List ℕ
text_at rows finals d = text_of (slice_get rows (d.0 - 1)) (slice_get finals (d.0 - 1))

abbrev pub refused_text : List RefusedLine → List ℕ
refused_text refused = flat_map (λ r. ended (refused_line r)) refused

abbrev pub devices_text : List Subscriber → List DeviceEnd → List ℕ
devices_text rows finals = flat_map (text_at rows finals) (devices_by_imsi rows)

-- the refused lines, and then the devices in the order of their IMSIs
unfoldable pub final_text : List Subscriber → List RefusedLine → List DeviceEnd → List ℕ
final_text rows refused finals = refused_text refused ++ devices_text rows finals
