-- Ends of devices whose calls can be written.
use Rattle.std.proofs.Common.{◌≡◌, ◌^◌, ◌<◌, List, [], ◌∷◌, length, refl}
use Rattle.std.specs.Prelude.{All, IsSome}
use Rattle.std.proofs.lemmas.List.Elements.{All-nil, All-cons}
use Rattle.device_types.specs.declared.effect.GwCall.{GwCall}
use Rattle.device_types.specs.declared.effect.GwCall.TheVariants as gateway
use Rattle.device_types.specs.declared.effect.SubCall.{SubCall}
use Rattle.device_types.specs.declared.finals.DeviceEnd.{DeviceEnd}
use Rattle.device_types.specs.declared.subscriber.Subscriber.{Subscriber}
use Rattle.report_text.specs.Calls.{Wire, gateway_wire, server_wire, IsCallerOf, AreCallers}

may_call : (row : Subscriber) (call : GwCall) → IsSome row.apn2 → gateway_wire.MayMake row call
may_call row gateway.SecondCreate named = named
may_call row _ named = tt

may_call_all : (row : Subscriber) (calls : List GwCall) → IsSome row.apn2 → All (gateway_wire.MayMake row) calls
may_call_all row [] named = All-nil (gateway_wire.MayMake row)
may_call_all row (call ∷ calls) named = All-cons (gateway_wire.MayMake row) call calls (may_call row call named) (may_call_all row calls named)

pub gateway_caller : (row : Subscriber) (end : DeviceEnd) → IsSome row.apn2 → length end.gateway < 2 ^ 24 → IsCallerOf gateway_wire row end
gateway_caller row end named few = record { few = few; may = may_call_all row end.gateway named }

may_ask_all : (row : Subscriber) (calls : List SubCall) → All (server_wire.MayMake row) calls
may_ask_all row [] = All-nil (server_wire.MayMake row)
may_ask_all row (call ∷ calls) = All-cons (server_wire.MayMake row) call calls tt (may_ask_all row calls)

pub server_caller : (row : Subscriber) (end : DeviceEnd) → length end.subscriber < 2 ^ 24 → IsCallerOf server_wire row end
server_caller row end few = record { few = few; may = may_ask_all row end.subscriber }

-- those of two devices
pub two_callers : {C : Type 0} (wire : Wire C) (rows : List Subscriber) (finals : List DeviceEnd) (one two : Subscriber) (first second : DeviceEnd) → rows ≡ one ∷ two ∷ [] → finals ≡ first ∷ second ∷ [] → IsCallerOf wire one first → IsCallerOf wire two second → AreCallers wire rows finals
two_callers wire rows finals one two first second are is f s = rw (are, is) (record { count = refl; calls = (f, (s, tt)) })
