-- The NAS messages of the network that can be written (TS 24.301, 8.2 and 8.3).
use Rattle.std.specs.Prelude.{◌≡◌, ◌^◌, ◌<◌, ◌≤◌, length}
use Rattle.device_types.specs.declared.nas_out.NasOut.{NasOut}
use Rattle.device_types.specs.declared.nas_out.NasOut.TheVariants.{AuthRequest, AuthReject, SecurityCommand, AttachAccept, AttachReject, ServiceReject, AreaReject, AreaAccept, DetachAccept, PdnReject, Activate}
use Rattle.device_types.specs.Octets.{AreOctets}

-- what a message has to meet: RAND and AUTN of 16 octets, a PLMN identity of three, an access point name of 1 to 30
abbrev pub IsNasOut : NasOut → Type 0
IsNasOut (AuthRequest rand autn) = (length rand ≡ 16) × (length autn ≡ 16)
IsNasOut AuthReject = Unit {0}
IsNasOut (SecurityCommand eea eia) = Unit {0}
IsNasOut (AttachAccept plmn tac pti apn ip) = (plmn < 2 ^ 24) × (1 ≤ length apn) × (length apn ≤ 30)
IsNasOut (AttachReject cause) = Unit {0}
IsNasOut (ServiceReject cause) = Unit {0}
IsNasOut (AreaReject cause) = Unit {0}
IsNasOut AreaAccept = Unit {0}
IsNasOut DetachAccept = Unit {0}
IsNasOut (PdnReject pti cause) = Unit {0}
IsNasOut (Activate pti apn ip) = (1 ≤ length apn) × (length apn ≤ 30)

-- its fields are in the ranges of their types, and its texts are octets
abbrev pub HasNasFields : NasOut → Type 0
HasNasFields (AuthRequest rand autn) = AreOctets rand × AreOctets autn
HasNasFields AuthReject = Unit {0}
HasNasFields (SecurityCommand eea eia) = (eea < 256) × (eia < 256)
HasNasFields (AttachAccept plmn tac pti apn ip) = (tac < 2 ^ 16) × (pti < 256) × AreOctets apn × (ip < 2 ^ 32)
HasNasFields (AttachReject cause) = cause < 256
HasNasFields (ServiceReject cause) = cause < 256
HasNasFields (AreaReject cause) = cause < 256
HasNasFields AreaAccept = Unit {0}
HasNasFields DetachAccept = Unit {0}
HasNasFields (PdnReject pti cause) = (pti < 256) × (cause < 256)
HasNasFields (Activate pti apn ip) = (pti < 256) × AreOctets apn × (ip < 2 ^ 32)
