-- The lines of a device.
use Rattle.std.specs.Prelude.{ℕ, List, ◌++◌, codes}
use Rattle.std.specs.Fmt.{decimal}
use Rattle.hex.specs.Hex.{encode_lower}
use Rattle.echo_base.specs.Reason.{zero_filled}
use Rattle.device_types.specs.declared.subscriber.Subscriber.{Subscriber}
use Rattle.device_types.specs.declared.down.Down.{Down}
use Rattle.device_types.specs.declared.down.Down.TheVariants as down
use Rattle.s1ap_pdu.specs.Run.{written}
use Rattle.entry_edge.specs.Down.{message_of}
use Rattle.device_types.specs.declared.effect.GwCall.{GwCall}
use Rattle.device_types.specs.declared.effect.GwCall.TheVariants.{Create, Modify, Release, Delete, SecondCreate, SecondModify}
use Rattle.device_types.specs.declared.effect.SubCall.{SubCall}
use Rattle.device_types.specs.declared.effect.SubCall.TheVariants.{Vectors, Location, Purge}
use Rattle.report_text.specs.Lines.{hex_filled}

abbrev pub device_line : ℕ → ℕ → ℕ → List ℕ
device_line imsi messages steps = codes "device " ++ zero_filled 15 imsi ++ codes " messages " ++ decimal messages ++ codes " steps " ++ decimal steps

-- a message to the device: its number on the lane, the base station, and the octets of the PDU
abbrev pub down_line : ℕ → ℕ → List ℕ → List ℕ
down_line number station pdu = codes "down " ++ decimal number ++ codes " " ++ decimal station ++ codes " " ++ encode_lower pdu

abbrev pub station_of : Down → ℕ
station_of (down.Nas station enb nas) = station
station_of (down.Setup station enb dl ul sgw teid eea eia key accept) = station
station_of (down.Release station enb cause) = station
station_of (down.Page plmn tac) = 0
station_of (down.Erab station enb sgw teid pti ip) = station
station_of (down.SetupTwo station enb dl ul sgw teid eea eia key sgw2 teid2) = station

-- a message to the device of a row
abbrev pub sent_line : Subscriber → ℕ → Down → List ℕ
sent_line row number d = down_line number (station_of d) (written (message_of row d))

abbrev pub gateway_text : GwCall → List ℕ
gateway_text Create = codes "create"
gateway_text (Modify addr teid) = codes "modify " ++ hex_filled 8 addr ++ codes " " ++ decimal teid
gateway_text Release = codes "release"
gateway_text Delete = codes "delete"
gateway_text SecondCreate = codes "second-create"
gateway_text (SecondModify addr teid) = codes "second-modify " ++ hex_filled 8 addr ++ codes " " ++ decimal teid

abbrev pub gateway_line : ℕ → GwCall → List ℕ
gateway_line number call = codes "gateway " ++ decimal number ++ codes " " ++ gateway_text call

abbrev pub subscriber_text : SubCall → List ℕ
subscriber_text Vectors = codes "vectors"
subscriber_text Location = codes "location"
subscriber_text Purge = codes "purge"

abbrev pub subscriber_line : ℕ → SubCall → List ℕ
subscriber_line number call = codes "subscriber " ++ decimal number ++ codes " " ++ subscriber_text call
