-- What a value has to be where it is written.
use Rattle.std.specs.Prelude.{ℕ, ◌^◌, ◌<◌, ◌≤◌, List, length, IfSome}
use Rattle.s1ap_ies.specs.declared.tai.Tai.{Tai}
use Rattle.s1ap_ies.specs.declared.cgi.Cgi.{Cgi}
use Rattle.s1ap_ies.specs.declared.stmsi.Stmsi.{Stmsi}
use Rattle.s1ap_ies.specs.declared.bit_rates.BitRates.{BitRates}
use Rattle.s1ap_ies.specs.declared.sec_caps.SecCaps.{SecCaps}
use Rattle.s1ap_ies.specs.declared.cause.Cause.{Cause}
use Rattle.s1ap_ies.specs.declared.ue_ids.UeIds.{UeIds}
use Rattle.s1ap_ies.specs.declared.erab_done.ErabDone.{ErabDone}
use Rattle.s1ap_ies.specs.declared.erab_to_setup.ErabToSetup.{ErabToSetup}
use Rattle.aper_fields.specs.Asn1.{CanBeWritten}
use Rattle.s1ap_ies.specs.declared.names.TheConstants as names
use Rattle.s1ap_ies.specs.Values.{tai, cgi, stmsi, bit_rates, sec_caps, cause, ue_ids}

abbrev pub IsTai : Tai → Type 0
IsTai v = CanBeWritten tai v

abbrev pub IsCgi : Cgi → Type 0
IsCgi v = CanBeWritten cgi v

abbrev pub IsStmsi : Stmsi → Type 0
IsStmsi v = CanBeWritten stmsi v

abbrev pub IsBitRates : BitRates → Type 0
IsBitRates v = CanBeWritten bit_rates v

abbrev pub IsSecCaps : SecCaps → Type 0
IsSecCaps v = CanBeWritten sec_caps v

abbrev pub IsCause : Cause → Type 0
IsCause v = CanBeWritten cause v

abbrev pub IsUeIds : UeIds → Type 0
IsUeIds v = CanBeWritten ue_ids v

-- an octet string that is taken as a NAS-PDU
abbrev pub IsNas : List ℕ → Type 0
IsNas octets = length octets ≤ names.MOST_OCTETS_OF_NAS

-- the items of lists, in one line for their callers
abbrev pub IsErabDone : ErabDone → Type 0
IsErabDone v = (v.id < 16) × (v.address < 2 ^ 32) × (v.teid < 2 ^ 32)

abbrev pub IsErabToSetup : ErabToSetup → Type 0
IsErabToSetup v = (v.id < 16) × (v.qci < 2 ^ 8) × (v.arp < 2 ^ 6) × (v.address < 2 ^ 32) × (v.teid < 2 ^ 32) × IfSome v.nas IsNas
