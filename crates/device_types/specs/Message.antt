-- The messages of a device: the ranges of their fields.
use Rattle.std.specs.Prelude.{◌≡◌, ℕ, ◌^◌, ◌<◌, ◌≤◌, IfSome}
use Rattle.device_types.specs.declared.message.Body.{Body}
use Rattle.device_types.specs.declared.message.Body.TheVariants.{Attach, Service, Area, Detach, Response, Secured, SecurityRefused, AttachDone, ContextDone, ContextFailed, ReleaseAsked, Released, Capability, Data, PdnRequest, PdnAccept, SecondDone, SecondRefused}
use Rattle.device_types.specs.declared.message.Message.{Message}
use Rattle.device_types.specs.declared.message.Side.{Side}
use Rattle.device_types.specs.Cause.{IsCauseCode}
use Rattle.device_types.specs.Octets.{AreOctets}

-- a tracking area: a PLMN identity of three octets and a code of two (TS 36.413, 9.2.3.16)
abbrev pub IsArea : ℕ → ℕ → Type 0
IsArea plmn tac = (plmn < 2 ^ 24) × (tac < 2 ^ 16)

-- a base station, from 1, and an eNB-UE-S1AP-ID (TS 36.413, 9.2.3.4)
pub record IsPair (station enb : ℕ) : Type 0 where
  pub station_least : 1 ≤ station
  pub station_most : station < 2 ^ 16
  pub enb_most : enb < 2 ^ 24

-- where a message comes from: a notice of the gateway from no base station, which has the number 0, and any other from one
abbrev pub IsFrom : Body → ℕ → ℕ → Type 0
IsFrom Data station enb = (station ≡ 0) × (enb < 2 ^ 24)
IsFrom _ station enb = IsPair station enb

-- a base station's end of a bearer's tunnel (TS 36.413, 9.2.2.1 and 9.2.2.2)
abbrev pub IsSide : Side → Type 0
IsSide side = (side.addr < 2 ^ 32) × (side.teid < 2 ^ 32)

abbrev pub IsBody : Body → Type 0
IsBody (Attach plmn tac eea eia pti) = IsArea plmn tac × (eea < 256) × (eia < 256) × (pti < 256)
IsBody Service = Unit {0}
IsBody (Area first plmn tac) = IsArea plmn tac
IsBody (Detach first off) = Unit {0}
IsBody (Response res) = AreOctets res
IsBody Secured = Unit {0}
IsBody SecurityRefused = Unit {0}
IsBody AttachDone = Unit {0}
IsBody (ContextDone addr teid second) = (addr < 2 ^ 32) × (teid < 2 ^ 32) × IfSome second IsSide
IsBody ContextFailed = Unit {0}
IsBody (ReleaseAsked cause) = IsCauseCode cause
IsBody Released = Unit {0}
IsBody (Capability octets) = AreOctets octets
IsBody Data = Unit {0}
IsBody (PdnRequest pti) = pti < 256
IsBody PdnAccept = Unit {0}
IsBody (SecondDone addr teid) = (addr < 2 ^ 32) × (teid < 2 ^ 32)
IsBody SecondRefused = Unit {0}

pub record IsMessage (message : Message) : Type 0 where
  pub pair : IsFrom message.body message.station message.enb
  pub body : IsBody message.body
