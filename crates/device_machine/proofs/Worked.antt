-- What becomes of devices, computed: one that gives a wrong response, and one that sends nothing.
use Rattle.std.proofs.Common.{◌≡◌, [], ◌∷◌, false, None, refl}
use Rattle.device_types.specs.declared.cause.CauseCode.{CauseCode}
use Rattle.device_types.specs.declared.down.Down.TheVariants.{Nas, Release}
use Rattle.device_types.specs.declared.effect.SubCall.TheVariants.{Vectors}
use Rattle.device_types.specs.declared.finals.DeviceEnd.{DeviceEnd}
use Rattle.device_types.specs.declared.message.Body.TheVariants.{Attach, Response}
use Rattle.device_types.specs.declared.message.Message.{Message}
use Rattle.device_types.specs.declared.nas_out.NasOut.TheVariants.{AuthRequest, AuthReject}
use Rattle.device_types.specs.declared.session.Link.TheVariants.{On}
use Rattle.device_types.specs.declared.session.Stage.TheVariants.{Releasing}
use Rattle.device_types.specs.declared.subscriber.Subscriber.{Subscriber}
use Rattle.device_types.specs.Acts.{moves_connection, drops_ue, frees_bearers}
use Rattle.device_types.specs.Alone.{alone_of}
use Rattle.device_types.specs.Session.{opening}
use Rattle.device_types.specs.StepTable.{step_table, step_of}
use Rattle.device_machine.specs.Ends.{finals_of}

row : Subscriber
row = record {
  number = 1;
  imsi = 208930000000001;
  tmsi = 1;
  rand = 1 ∷ [];
  autn = 2 ∷ [];
  res = 3 ∷ 4 ∷ [];
  key = 5 ∷ [];
  apn = 6 ∷ [];
  ip = 7;
  sgw = 8;
  teid = 9;
  ambr_dl = 10;
  ambr_ul = 11;
  forbidden = [];
  apn2 = None;
  ip2 = None;
}

attach : Message
attach = record { number = 1; station = 1; enb = 1; body = Attach 0x02f839 1 224 224 1 }

wrong : Message
wrong = record { number = 2; station = 1; enb = 1; body = Response (3 ∷ 5 ∷ []) }

-- authentication failure (TS 36.413, 9.2.1.3)
failed : CauseCode
failed = record { group = 2; extended = false; index = 1 }

refused : DeviceEnd
refused = record {
  messages = 2;
  steps = 3;
  downs = Nas 1 1 (AuthRequest (1 ∷ []) (2 ∷ [])) ∷ Nas 1 1 AuthReject ∷ Release 1 1 failed ∷ [];
  gateway = [];
  subscriber = Vectors ∷ [];
  session = record opening { stage = Releasing; link = On 1 1; plmn = 0x02f839; tac = 1; eea = 224; eia = 224; pti = 1; res = 3 ∷ 4 ∷ []; key = 5 ∷ []; cause = failed };
}

silent : DeviceEnd
silent = record { messages = 0; steps = 0; downs = []; gateway = []; subscriber = []; session = opening }

ends : finals_of (row ∷ record row { number = 2 } ∷ []) ((attach ∷ wrong ∷ []) ∷ [] ∷ []) ≡ refused ∷ silent ∷ []
unfolding alone_of step_table step_of moves_connection drops_ue frees_bearers row attach wrong failed refused silent
ends = refl
