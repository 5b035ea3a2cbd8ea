-- Worked runs of the machine alone, computed: the cheapest test of the step table.
use Rattle.std.proofs.Common.{◌≡◌, ℕ, true, false, List, [], ◌∷◌, length, take, drop, Some, None, refl}
use Rattle.device_types.specs.declared.cause.CauseCode.{CauseCode}
use Rattle.device_types.specs.declared.down.Down.TheVariants.{Nas, Setup, Release, Page, Erab, SetupTwo}
use Rattle.device_types.specs.declared.down.Accept.TheVariants.{No}
use Rattle.device_types.specs.declared.effect.Effect.TheVariants as effects
use Rattle.device_types.specs.declared.effect.GwCall.TheVariants as gateway
use Rattle.device_types.specs.declared.effect.SubCall.TheVariants as subscriber
use Rattle.device_types.specs.declared.event.Lane.TheVariants as lanes
use Rattle.device_types.specs.declared.message.Body.{Body}
use Rattle.device_types.specs.declared.message.Body.TheVariants as bodies
use Rattle.device_types.specs.declared.message.Message.{Message}
use Rattle.device_types.specs.declared.nas_out.NasOut.TheVariants.{AuthRequest, AuthReject, DetachAccept, PdnReject}
use Rattle.device_types.specs.declared.session.Stage.TheVariants as stages
use Rattle.device_types.specs.declared.subscriber.Subscriber.{Subscriber}
use Rattle.device_types.specs.Acts.{moves_connection, drops_ue, frees_bearers}
use Rattle.device_types.specs.Alone.{alone_of}
use Rattle.device_types.specs.Journal.{session_of, effects_of}
use Rattle.device_types.specs.StepTable.{step_table, step_of}

row : Subscriber
row = record {
  number = 1;
  imsi = 208930000000001;
  tmsi = 1;
  rand = 1 ∷ [];
  autn = 2 ∷ [];
  res = 3 ∷ 4 ∷ [];
  key = 5 ∷ [];
  apn = 6 ∷ [];
  ip = 7;
  sgw = 8;
  teid = 9;
  ambr_dl = 10;
  ambr_ul = 11;
  forbidden = 9 ∷ [];
  apn2 = None;
  ip2 = None;
}

from : ℕ → ℕ → Body → Message
from number enb body = record { number = number; station = 1; enb = enb; body = body }

inactivity : CauseCode
inactivity = record { group = 0; extended = false; index = 20 }

-- attach
attach : List Message
attach =
    from 1 1 (bodies.Attach 0x02f839 1 224 224 1) ∷ from 2 1 (bodies.Response (3 ∷ 4 ∷ [])) ∷ from 3 1 bodies.Secured
    ∷ from 4 1 (bodies.ContextDone 12 13 None) ∷ from 5 1 (bodies.Capability (1 ∷ 2 ∷ [])) ∷ from 6 1 bodies.AttachDone ∷ []

-- attach; release; service; release; a tracking area update in a forbidden area; detach
day : List Message
day =
    from 1 1 (bodies.Attach 0x02f839 1 224 224 1) ∷ from 2 1 (bodies.Response (3 ∷ 4 ∷ [])) ∷ from 3 1 bodies.Secured
    ∷ from 4 1 (bodies.ContextDone 12 13 None) ∷ from 5 1 (bodies.Capability (1 ∷ 2 ∷ [])) ∷ from 6 1 bodies.AttachDone
    ∷ from 7 1 (bodies.ReleaseAsked inactivity) ∷ from 8 1 bodies.Released
    ∷ from 9 2 bodies.Service ∷ from 10 2 (bodies.ContextDone 14 15 None) ∷ from 11 2 (bodies.ReleaseAsked inactivity) ∷ from 12 2 bodies.Released
    ∷ from 13 3 (bodies.Area true 0x02f839 9) ∷ from 14 3 bodies.Released
    ∷ from 15 4 (bodies.Detach true false) ∷ from 16 4 bodies.Released ∷ []

-- with a name and an address for a second connection
two : Subscriber
two = record row { apn2 = Some (14 ∷ []); ip2 = Some 15 }

-- attach; a second connection; release; service; detach
second : List Message
second =
    from 1 1 (bodies.Attach 0x02f839 1 224 224 1) ∷ from 2 1 (bodies.Response (3 ∷ 4 ∷ [])) ∷ from 3 1 bodies.Secured
    ∷ from 4 1 (bodies.ContextDone 12 13 None) ∷ from 5 1 bodies.AttachDone
    ∷ from 6 1 (bodies.PdnRequest 2) ∷ from 7 1 bodies.PdnAccept ∷ from 8 1 (bodies.SecondDone 16 17)
    ∷ from 9 1 (bodies.ReleaseAsked inactivity) ∷ from 10 1 bodies.Released
    ∷ from 11 2 bodies.Service ∷ from 12 2 (bodies.ContextDone 18 19 (Some (record { addr = 20; teid = 21 }))) ∷ from 13 2 (bodies.Detach false false) ∷ []

-- the wrong response
refused : List Message
refused = from 1 1 (bodies.Attach 0x02f839 1 224 224 1) ∷ from 2 1 (bodies.Response (3 ∷ 5 ∷ [])) ∷ []

-- a notice, from no base station
notice : ℕ → Message
notice number = record { number = number; station = 0; enb = 0; body = bodies.Data }

-- a notice before the device attaches; attach; a notice; release; a notice; service; a notice
waiting : List Message
waiting =
    notice 1
    ∷ from 2 1 (bodies.Attach 0x02f839 1 224 224 1) ∷ from 3 1 (bodies.Response (3 ∷ 4 ∷ [])) ∷ from 4 1 bodies.Secured
    ∷ from 5 1 (bodies.ContextDone 12 13 None) ∷ from 6 1 bodies.AttachDone ∷ notice 7
    ∷ from 8 1 (bodies.ReleaseAsked inactivity) ∷ from 9 1 bodies.Released ∷ notice 10
    ∷ from 11 2 bodies.Service ∷ notice 12 ∷ []

attach-steps : length (alone_of row attach) ≡ 10
unfolding alone_of step_table step_of moves_connection drops_ue frees_bearers row attach from
attach-steps = refl

attach-last : (session_of (alone_of row attach)).stage ≡ stages.Connected
unfolding alone_of step_table step_of moves_connection drops_ue frees_bearers row attach from
attach-last = refl

day-steps : length (alone_of row day) ≡ 24
unfolding alone_of step_table step_of moves_connection drops_ue frees_bearers row day from inactivity
day-steps = refl

day-gateway : effects_of lanes.Gateway (alone_of row day) ≡ effects.Gateway gateway.Create ∷ effects.Gateway (gateway.Modify 12 13) ∷ effects.Gateway gateway.Release ∷ effects.Gateway (gateway.Modify 14 15) ∷ effects.Gateway gateway.Release ∷ effects.Gateway gateway.Delete ∷ []
unfolding alone_of step_table step_of moves_connection drops_ue frees_bearers row day from inactivity
day-gateway = refl

day-subscriber : effects_of lanes.Subscriber (alone_of row day) ≡ effects.Subscriber subscriber.Vectors ∷ effects.Subscriber subscriber.Location ∷ effects.Subscriber subscriber.Purge ∷ []
unfolding alone_of step_table step_of moves_connection drops_ue frees_bearers row day from inactivity
day-subscriber = refl

day-last : (session_of (alone_of row day)).stage ≡ stages.Detached
unfolding alone_of step_table step_of moves_connection drops_ue frees_bearers row day from inactivity
day-last = refl

refused-steps : length (alone_of row refused) ≡ 3
unfolding alone_of step_table step_of moves_connection drops_ue frees_bearers row refused from
refused-steps = refl

refused-downs : effects_of lanes.Down (alone_of row refused) ≡ effects.Down (Nas 1 1 (AuthRequest (1 ∷ []) (2 ∷ []))) ∷ effects.Down (Nas 1 1 AuthReject) ∷ effects.Down (Release 1 1 (record { group = 2; extended = false; index = 1 })) ∷ []
unfolding alone_of step_table step_of moves_connection drops_ue frees_bearers row refused from
refused-downs = refl

-- each message makes a step, and so do the five answers
waiting-steps : length (alone_of row waiting) ≡ 17
unfolding alone_of step_table step_of moves_connection drops_ue frees_bearers row waiting notice from inactivity
waiting-steps = refl

-- the third notice alone pages the device, and the request that follows sets up its context
waiting-downs : drop 4 (effects_of lanes.Down (alone_of row waiting)) ≡ effects.Down (Page 0x02f839 1) ∷ effects.Down (Setup 1 2 10 11 8 9 224 224 (5 ∷ []) No) ∷ []
unfolding alone_of step_table step_of moves_connection drops_ue frees_bearers row waiting notice from inactivity
waiting-downs = refl

waiting-last : (session_of (alone_of row waiting)).stage ≡ stages.Connecting
unfolding alone_of step_table step_of moves_connection drops_ue frees_bearers row waiting notice from inactivity
waiting-last = refl

second-gateway : effects_of lanes.Gateway (alone_of two second) ≡ effects.Gateway gateway.Create ∷ effects.Gateway (gateway.Modify 12 13) ∷ effects.Gateway gateway.SecondCreate ∷ effects.Gateway (gateway.SecondModify 16 17) ∷ effects.Gateway gateway.Release ∷ effects.Gateway (gateway.Modify 18 19) ∷ effects.Gateway (gateway.SecondModify 20 21) ∷ effects.Gateway gateway.Delete ∷ []
unfolding alone_of step_table step_of moves_connection drops_ue frees_bearers two row second from inactivity
second-gateway = refl

-- the second bearer, and both again behind the service request
second-downs : drop 3 (effects_of lanes.Down (alone_of two second)) ≡ effects.Down (Erab 1 1 8 10 2 15) ∷ effects.Down (Release 1 1 inactivity) ∷ effects.Down (SetupTwo 1 2 10 11 8 9 224 224 (5 ∷ []) 8 10) ∷ effects.Down (Nas 1 2 DetachAccept) ∷ effects.Down (Release 1 2 (record { group = 2; extended = false; index = 2 })) ∷ []
unfolding alone_of step_table step_of moves_connection drops_ue frees_bearers two row second from inactivity
second-downs = refl

-- a subscriber without them: the request is rejected
second-rejected : drop 3 (effects_of lanes.Down (alone_of row (take 6 second))) ≡ effects.Down (Nas 1 1 (PdnReject 2 27)) ∷ []
unfolding alone_of step_table step_of moves_connection drops_ue frees_bearers row second from inactivity
second-rejected = refl
