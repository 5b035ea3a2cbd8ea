-- The messages to a device that can be written.
use Rattle.std.specs.Prelude.{ℕ, ◌^◌, ◌<◌, IsSome}
use Rattle.device_types.specs.declared.down.Accept.{Accept}
use Rattle.device_types.specs.declared.down.Accept.TheVariants.{No, Yes}
use Rattle.device_types.specs.declared.down.Down.{Down}
use Rattle.device_types.specs.declared.down.Down.TheVariants.{Nas, Setup, Release, Page, Erab, SetupTwo}
use Rattle.device_types.specs.declared.subscriber.Subscriber.{Subscriber}
use Rattle.device_types.specs.Cause.{IsCauseCode}
use Rattle.device_types.specs.Keys.{IsKey}
use Rattle.device_types.specs.Message.{IsArea}
use Rattle.device_types.specs.Nas.{IsNasOut, HasNasFields}
use Rattle.device_types.specs.Numbers.{IsBitRate}

abbrev pub IsAccept : Accept → Type 0
IsAccept No = Unit {0}
IsAccept (Yes plmn tac pti ip) = IsArea plmn tac × (pti < 256) × (ip < 2 ^ 32)

-- a base station, and an eNB-UE-S1AP-ID (TS 36.413, 9.2.3.4)
abbrev pub IsReceiver : ℕ → ℕ → Type 0
IsReceiver station enb = (station < 2 ^ 16) × (enb < 2 ^ 24)

-- bit rates (TS 36.413, 9.2.1.20), a tunnel of the gateway (9.2.2.1, 9.2.2.2), and algorithms (TS 24.301, 9.9.3.34)
abbrev pub AreRates : ℕ → ℕ → Type 0
AreRates dl ul = IsBitRate dl × IsBitRate ul

abbrev pub IsTunnel : ℕ → ℕ → Type 0
IsTunnel address teid = (address < 2 ^ 32) × (teid < 2 ^ 32)

abbrev pub AreAlgorithms : ℕ → ℕ → Type 0
AreAlgorithms eea eia = (eea < 256) × (eia < 256)

-- to the device of a row: a second bearer is of its second access point name
abbrev pub IsDown : Subscriber → Down → Type 0
IsDown row (Nas station enb nas) = IsReceiver station enb × IsNasOut nas × HasNasFields nas
IsDown row (Setup station enb dl ul sgw teid eea eia key accept) = IsReceiver station enb × AreRates dl ul × IsTunnel sgw teid × AreAlgorithms eea eia × IsKey key × IsAccept accept
IsDown row (Release station enb cause) = IsReceiver station enb × IsCauseCode cause
IsDown row (Page plmn tac) = IsArea plmn tac
IsDown row (Erab station enb sgw teid pti ip) = IsReceiver station enb × IsTunnel sgw teid × (pti < 256) × (ip < 2 ^ 32) × IsSome row.apn2
IsDown row (SetupTwo station enb dl ul sgw teid eea eia key sgw2 teid2) = IsReceiver station enb × AreRates dl ul × IsTunnel sgw teid × AreAlgorithms eea eia × IsKey key × IsTunnel sgw2 teid2
