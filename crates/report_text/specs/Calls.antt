-- The calls of devices to a peer and its answers, as text.
use Rattle.std.specs.Prelude.{◌≡◌, ℕ, ◌-◌, ◌^◌, ◌<◌, List, [], ◌++◌, length, take, codes, Option, Some, None, slice_get, All}
use Rattle.std.specs.Fmt.{decimal}
use Rattle.std.specs.List.{AllZip, flat_map}
use Rattle.hex.specs.Hex.{encode_lower}
use Rattle.echo_base.specs.Reason.{zero_filled}
use Rattle.device_types.specs.declared.effect.GwCall.{GwCall}
use Rattle.device_types.specs.declared.effect.SubCall.{SubCall}
use Rattle.device_types.specs.declared.finals.DeviceEnd.{DeviceEnd}
use Rattle.device_types.specs.declared.subscriber.DeviceId.{DeviceId}
use Rattle.device_types.specs.declared.subscriber.Subscriber.{Subscriber}
use Rattle.gtp2_wire.specs.Calls.{call_message, answer_message, HasName}
use Rattle.gtp2_wire.specs.Written.{gtp_run}
use Rattle.dia_wire.specs.Calls.{ask_message, reply_message}
use Rattle.dia_wire.specs.Written.{dia_run}
use Rattle.peer_gateway.specs.Gateway.{gateway_answer_of}
use Rattle.peer_subscriber.specs.Server.{subscriber_answer_of}
use Rattle.subs_table.specs.Order.{devices_by_imsi}
use Rattle.report_text.specs.Lines.{ended, numbered}

-- ---- a peer on the wire

-- the calls that a device made, those that a row may make, and what is written: of call k of a row, and of the answer to the last of k calls
pub record Wire (C : Type 0) : Type 1 where
  pub calls : DeviceEnd → List C
  pub MayMake : Subscriber → C → Type 0
  pub call : Subscriber → ℕ → C → List ℕ
  pub answer : Subscriber → ℕ → List C → List ℕ

abbrev pub gateway_wire : Wire GwCall
gateway_wire = record {
  calls = λ end. end.gateway;
  MayMake = HasName;
  call = λ row k call. gtp_run (call_message row k call);
  answer = λ row k calls. gtp_run (answer_message row k (gateway_answer_of row calls));
}

abbrev pub server_wire : Wire SubCall
server_wire = record {
  calls = λ end. end.subscriber;
  MayMake = λ row call. Unit {0};
  call = λ row k call. dia_run (ask_message row k call);
  answer = λ row k calls. dia_run (reply_message row k (subscriber_answer_of row calls));
}

-- ---- the text

abbrev pub imsi_line : ℕ → List ℕ
imsi_line imsi = codes "device " ++ zero_filled 15 imsi

-- a call or an answer, by its number, and the octets with which it is written
abbrev pub wire_line : List ℕ → ℕ → List ℕ → List ℕ
wire_line word number octets = word ++ codes " " ++ decimal number ++ codes " " ++ encode_lower octets

-- call k, the last of these calls, and its answer
abbrev pub exchange : {C : Type 0} → Wire C → Subscriber → List C → ℕ → C → List ℕ
exchange wire row calls k call = ended (wire_line (codes "call") k (wire.call row k call)) ++ wire_line (codes "answer") k (wire.answer row k calls)

-- the calls of a device, each with the answer that it was given behind those before it
abbrev pub exchanges : {C : Type 0} → Wire C → Subscriber → List C → List ℕ
exchanges wire row calls = numbered (λ k call. exchange wire row (take k calls) k call) calls

abbrev pub device_calls : {C : Type 0} → Wire C → Subscriber → List C → List ℕ
device_calls wire row calls = ended (imsi_line row.imsi) ++ exchanges wire row calls

abbrev pub calls_of_end : {C : Type 0} → Wire C → Option Subscriber → Option DeviceEnd → List ℕ
calls_of_end wire (Some row) (Some end) = device_calls wire row (wire.calls end)
calls_of_end wire (Some row) None = []
calls_of_end wire None end = []

abbrev pub calls_at : {C : Type 0} → Wire C → List Subscriber → List DeviceEnd → DeviceId → List ℕ
calls_at wire rows finals d = calls_of_end wire (slice_get rows (d.0 - 1)) (slice_get finals (d.0 - 1))

-- the devices in the order of their IMSIs
abbrev pub calls_text : {C : Type 0} → Wire C → List Subscriber → List DeviceEnd → List ℕ
calls_text wire rows finals = flat_map (calls_at wire rows finals) (devices_by_imsi rows)

unfoldable pub s11_text : List Subscriber → List DeviceEnd → List ℕ
s11_text rows finals = calls_text gateway_wire rows finals

unfoldable pub s6a_text : List Subscriber → List DeviceEnd → List ℕ
s6a_text rows finals = calls_text server_wire rows finals

-- ---- what can be written

-- the device of the row may make these calls, and their numbers have room
pub record IsCallerOf {C : Type 0} (wire : Wire C) (row : Subscriber) (end : DeviceEnd) : Type 0 where
  pub few : length (wire.calls end) < 2 ^ 24
  pub may : All (wire.MayMake row) (wire.calls end)

-- an end for each row, whose calls can be written
pub record AreCallers {C : Type 0} (wire : Wire C) (rows : List Subscriber) (finals : List DeviceEnd) : Type 0 where
  pub count : length finals ≡ length rows
  pub calls : AllZip (IsCallerOf wire) rows finals
