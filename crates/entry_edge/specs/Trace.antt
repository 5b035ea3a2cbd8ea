-- Admission: what comes of each line of a trace, by what came of the lines before it.
use Rattle.std.specs.Prelude.{ℕ, ◌+◌, ◌==◌, ◌&&◌, Bool, true, false, List, [], ◌∷◌, ◌++◌, length, map, fold, Option, Some, None, Result, Ok, Err, if◌then◌else◌}
use Rattle.std.specs.List.{range_with_len}
use Rattle.echo_base.specs.declared.reason.Reason.TheVariants.{UnknownDevice, UnknownPair}
use Rattle.echo_base.specs.declared.identity.Identity.{Identity}
use Rattle.echo_base.specs.declared.identity.Identity.TheVariants.{Imsi, Tmsi}
use Rattle.echo_base.specs.declared.refusal.Refusal.{Refusal}
use Rattle.echo_base.specs.Answer.{◌>>=◌, refused}
use Rattle.device_types.specs.declared.subscriber.Subscriber.{Subscriber}
use Rattle.device_types.specs.declared.subscriber.DeviceId.{DeviceId}
use Rattle.device_types.specs.declared.message.Message.{Message}
use Rattle.subs_table.specs.Table.{device_by, imsi_of, tmsi_of}
use Rattle.case_form.specs.declared.case.TraceLine.{TraceLine}
use Rattle.case_form.specs.declared.case.TraceKind.{TraceKind}
use Rattle.case_form.specs.declared.case.TraceKind.TheVariants.{Pdu, Data}
use Rattle.entry_edge.specs.declared.sent.Claim.{Claim}
use Rattle.entry_edge.specs.declared.sent.Claim.TheVariants.{Named, Numbered, Noticed}
use Rattle.entry_edge.specs.declared.sent.Sent.{Sent}
use Rattle.entry_edge.specs.declared.check.Taken.{Taken}
use Rattle.entry_edge.specs.declared.admission.RefusedLine.{RefusedLine}
use Rattle.entry_edge.specs.Sent.{is_release, said_by, notice}

-- what came of a line: its message is admitted, or the line is refused
pub data Turn : Type 0 where
  Admitted : Taken → Turn
  Refused : RefusedLine → Turn

-- A history has the newest turn first.

-- ---- bindings

-- an InitialUEMessage binds its pair
abbrev pub is_named : Claim → Bool
is_named (Named identity) = true
is_named (Numbered mme) = false
is_named (Noticed imsi) = false

abbrev pub binds : Taken → Bool
binds t = is_named t.sent.claim

-- a UEContextReleaseComplete frees it
abbrev pub frees : Taken → Bool
frees t = is_release t.sent.body

-- a pair: a base station, and the eNB UE S1AP ID that it gave a device
abbrev pub Pair : Type 0
Pair = ℕ × ℕ

-- the pair that a message came on
abbrev pub pair_of : Taken → Pair
pair_of t = (t.station, t.sent.enb)

abbrev pub same_pair : Pair → Pair → Bool
same_pair one other = one.0 == other.0 && one.1 == other.1

-- what a message on the pair leaves of it
abbrev pub left_by : Taken → Option DeviceId → Option DeviceId
left_by t before = if binds t then Some t.device else if frees t then None else before

-- the device of the last InitialUEMessage on the pair, where no UEContextReleaseComplete came on it later
abbrev pub opened : Pair → List Turn → Option DeviceId
opened pair [] = None
opened pair (Refused r ∷ H) = opened pair H
opened pair (Admitted t ∷ H) = if same_pair (pair_of t) pair then left_by t (opened pair H) else opened pair H

-- the pair of the last InitialUEMessage of the device
abbrev pub place : ℕ → List Turn → Option Pair
place d [] = None
place d (Refused r ∷ H) = place d H
place d (Admitted t ∷ H) = if binds t && t.device.0 == d then Some (pair_of t) else place d H

abbrev pub is_there : Pair → Option Pair → Bool
is_there pair None = false
is_there pair (Some other) = same_pair other pair

abbrev pub if_there : Pair → List Turn → Option DeviceId → Option DeviceId
if_there pair H None = None
if_there pair H (Some d) = if is_there pair (place d.0 H) then Some d else None

-- the device that the pair is bound to: that of the last InitialUEMessage on it, where no UEContextReleaseComplete came on it later, and the device has sent no later InitialUEMessage on another pair
unfoldable pub bound : Pair → List Turn → Option DeviceId
bound pair H = if_there pair H (opened pair H)

-- ---- the checks

-- the device of a request is that of its identity, and that of a notice is that of its IMSI
abbrev pub device_of_identity : List Subscriber → Identity → Option DeviceId
device_of_identity rows (Imsi imsi) = device_by imsi_of rows imsi
device_of_identity rows (Tmsi tmsi) = device_by tmsi_of rows tmsi

abbrev pub known : Identity → Option DeviceId → Result DeviceId Refusal
known identity None = Err (refused (UnknownDevice identity))
known identity (Some d) = Ok d

-- the device of any other message is that of its pair, and has the number of the message
abbrev pub agreed : Pair → ℕ → Option DeviceId → Result DeviceId Refusal
agreed pair mme None = Err (refused (UnknownPair pair.0 pair.1))
agreed pair mme (Some d) = if d.0 == mme then Ok d else Err (refused (UnknownPair pair.0 pair.1))

abbrev pub device_for : List Subscriber → List Turn → Pair → Claim → Result DeviceId Refusal
device_for rows H pair (Named identity) = known identity (device_of_identity rows identity)
device_for rows H pair (Numbered mme) = agreed pair mme (bound pair H)
device_for rows H pair (Noticed imsi) = known (Imsi imsi) (device_of_identity rows (Imsi imsi))

-- whose message it is
abbrev pub taken_by : List Subscriber → List Turn → ℕ → Sent → Result Taken Refusal
taken_by rows H station sent = do
  device ← device_for rows H (station, sent.enb) sent.claim
  Ok (record { device = device; station = station; sent = sent })

-- what a line of that kind says, whatever came before it
abbrev pub said_in : TraceKind → Result Sent Refusal
said_in (Pdu station text) = said_by text
said_in (Data imsi) = Ok (notice imsi)

-- the base station that it names; a notice comes from none, for which 0 stands
abbrev pub station_in : TraceKind → ℕ
station_in (Pdu station text) = station
station_in (Data imsi) = 0

-- The checks of a line, in order: its text, its PDU, what the message says, and whose it is; of a notice only whose it is. The first that fails is its refusal.
unfoldable pub taken_at : List Subscriber → List Turn → TraceLine → Result Taken Refusal
taken_at rows H line = said_in line.kind >>= taken_by rows H (station_in line.kind)

abbrev pub turn_of : ℕ → Result Taken Refusal → Turn
turn_of line (Ok t) = Admitted t
turn_of line (Err e) = Refused (record { line = line; refusal = e })

abbrev pub turn : List Subscriber → List Turn → TraceLine → List Turn
turn rows H line = turn_of line.line (taken_at rows H line) ∷ H

-- what came of the lines of a trace
abbrev pub history : List Subscriber → List TraceLine → List Turn
history rows trace = fold (turn rows) [] trace

-- ---- what admission gives

-- a message behind others, with the next number
abbrev pub and_message : List Message → Taken → List Message
and_message messages t = messages ++ record { number = length messages + 1; station = t.station; enb = t.sent.enb; body = t.sent.body } ∷ []

-- the messages of a device, in order, numbered from 1
abbrev pub messages_of : ℕ → List Turn → List Message
messages_of d [] = []
messages_of d (Refused r ∷ H) = messages_of d H
messages_of d (Admitted t ∷ H) = if t.device.0 == d then and_message (messages_of d H) t else messages_of d H

-- the messages of each of so many devices
abbrev pub book_of : ℕ → List Turn → List (List Message)
book_of devices H = map (λ d. messages_of d H) (range_with_len 1 devices)

-- the refused lines, in order
abbrev pub refused_of : List Turn → List RefusedLine
refused_of [] = []
refused_of (Refused r ∷ H) = refused_of H ++ r ∷ []
refused_of (Admitted t ∷ H) = refused_of H
